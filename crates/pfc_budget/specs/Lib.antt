pub mod Rule
pub mod Account
pub mod Seat
