pub mod RegistryFile
pub mod Tags
pub mod Vertical
pub mod VerticalLines
