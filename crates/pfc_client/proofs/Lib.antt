pub mod Walks
pub mod Sessions
pub mod Permitting
pub mod Telling
pub mod Vectors
