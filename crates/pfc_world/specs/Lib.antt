pub mod Calls
pub mod Counts
pub mod Depot
pub mod Disk
pub mod Files
pub mod Info
pub mod Run
pub mod Texts
