pub mod Bitmaps
mod Bits
mod Bytes
pub mod CinfoReading
mod Counts
pub mod CrcLinear
mod CrcTables
mod CrcWord
pub mod Lists
mod Places
mod Runs
mod Sets
mod Within
