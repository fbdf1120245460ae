pub mod Lines
pub mod Orders
pub mod Queries
pub mod Registries
pub mod Texts
pub mod Words
