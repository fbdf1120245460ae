pub mod Places
pub mod Seen
pub mod Headers
pub mod Reading
pub mod Scans
pub mod Waits
pub mod Laws
