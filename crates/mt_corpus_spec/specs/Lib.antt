pub mod Groups
pub mod Images
pub mod Segments
pub mod Decoded
