pub mod Ruled
pub mod Codes
pub mod Names
pub mod Reading
pub mod Keeping
pub mod Patterns
