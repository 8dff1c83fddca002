pub mod Pieces
pub mod Tiling
