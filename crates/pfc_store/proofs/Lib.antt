pub mod Mains
pub mod Opened
pub mod Sound
pub mod Stored
pub mod Volumes
