pub mod Blocks
pub mod Exits
