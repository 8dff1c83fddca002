mod Cuts
mod Placed
pub mod Spots
