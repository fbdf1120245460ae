pub mod Machine
pub mod Exprs
pub mod Parts
pub mod Reading
