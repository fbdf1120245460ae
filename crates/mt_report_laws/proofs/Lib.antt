pub mod Near
pub mod Listed
pub mod Scored
pub mod Reported
