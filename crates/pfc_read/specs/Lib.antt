pub mod OpView
pub mod Steps
pub mod Fills
pub mod Plans
pub mod Ends
pub mod Segments
pub mod Draft
pub mod Kept
