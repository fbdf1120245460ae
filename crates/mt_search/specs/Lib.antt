pub mod Finds
pub mod Refused
pub mod Steps
