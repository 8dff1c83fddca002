pub mod Depots
pub mod Outcome
pub mod Play
pub mod Run
pub mod Words
