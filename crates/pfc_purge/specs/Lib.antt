pub mod Wiped
