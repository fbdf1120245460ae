pub mod Codes
pub mod Lexicons
pub mod Positions
