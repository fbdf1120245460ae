pub mod Blocks
pub mod FirstLine
pub mod Names
pub mod Rows
