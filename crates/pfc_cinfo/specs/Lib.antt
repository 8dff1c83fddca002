pub mod Cinfo
pub mod Damage
pub mod Decoding
