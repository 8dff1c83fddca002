mod Keeps
mod Balance
