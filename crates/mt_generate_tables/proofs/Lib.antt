pub mod Codes
pub mod Text
