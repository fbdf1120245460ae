pub mod Steps
pub mod Draws
pub mod Ranges
pub mod Rows
pub mod Declared
