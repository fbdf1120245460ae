pub mod Lists
pub mod Sums
pub mod Frequent
pub mod Orders
pub mod Ones
pub mod Somes
pub mod Scored
pub mod Alikes
