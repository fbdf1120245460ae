pub mod Codes
pub mod Errors
pub mod Reading
pub mod Seen
pub mod SeenLine
