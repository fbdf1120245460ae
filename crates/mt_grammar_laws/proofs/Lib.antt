pub mod Grammars
pub mod InOrder
pub mod Readings
pub mod Valid
