pub mod Outcomes
pub mod Lists
pub mod Rooms
pub mod Overs
pub mod Counting
pub mod Checks
pub mod Declines
