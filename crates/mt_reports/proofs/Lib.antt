pub mod Found
pub mod Joined
pub mod Passed
pub mod Spans
pub mod Told
