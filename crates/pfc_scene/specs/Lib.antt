pub mod Queues
pub mod Scenes
pub mod Ends
