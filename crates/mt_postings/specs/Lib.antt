pub mod Words
pub mod Refused
pub mod Merge
pub mod Following
pub mod Kept
pub mod Forms
