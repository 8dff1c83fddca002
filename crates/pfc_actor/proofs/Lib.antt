pub mod Books
pub mod Tallied
pub mod Steps
pub mod Growing
pub mod Answering
pub mod Entering
pub mod Cores
pub mod Holding
pub mod Going
pub mod Calm
pub mod Giving
pub mod Ending
pub mod Asking
pub mod Backings
pub mod BackingHomes
pub mod BackingLoans
pub mod Leaving
mod Turning
