pub mod Refusals
pub mod Replies
pub mod Declines
pub mod Errors
pub mod Rows
pub mod Given
pub mod Reports
pub mod Told
