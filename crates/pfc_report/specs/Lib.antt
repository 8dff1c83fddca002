pub mod Schedule
pub mod Plan
pub mod Report
pub mod Restart
pub mod Caused
pub mod Spent
