pub mod Permitted
pub mod Replies
pub mod Requests
pub mod Session
pub mod Told
pub mod Vectors
