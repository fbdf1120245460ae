pub mod Marks
pub mod Plain
pub mod Shops
pub mod Searches
pub mod Known
