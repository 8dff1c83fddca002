pub mod Queue
pub mod Writer
