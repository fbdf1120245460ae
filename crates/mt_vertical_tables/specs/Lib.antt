pub mod Columns
pub mod Joined
pub mod Marks
pub mod Outlines
pub mod Packing
