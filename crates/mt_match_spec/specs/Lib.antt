pub mod Values
pub mod Tests
pub mod Labels
pub mod Matches
pub mod Rows
pub mod Kept
