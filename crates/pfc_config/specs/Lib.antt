pub mod Words
pub mod Directive
pub mod Line
pub mod Config
pub mod Settings
pub mod Kind
