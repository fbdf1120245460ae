pub mod Members
pub mod One
pub mod Sorting
pub mod Deciding
pub mod Listing
pub mod Listed
pub mod Keeping
