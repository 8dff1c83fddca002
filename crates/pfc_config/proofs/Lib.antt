pub mod Fractions
pub mod Names
pub mod Ranges
pub mod Reading
pub mod Settled
pub mod Worded
