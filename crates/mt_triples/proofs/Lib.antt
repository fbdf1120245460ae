pub mod Joined
pub mod Telling
pub mod Numbered
pub mod Existing
