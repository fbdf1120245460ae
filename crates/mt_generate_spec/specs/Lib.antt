pub mod Demo
pub mod Draws
pub mod Generated
pub mod Verticals
