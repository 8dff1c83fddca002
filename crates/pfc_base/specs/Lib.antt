pub mod Block
pub mod BlockSet
pub mod Cinfo
pub mod Crc
pub mod Number
pub mod Path
pub mod Pieces
pub mod Words
