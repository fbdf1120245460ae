pub mod Faults
pub mod Memory
pub mod Shelves
pub mod Told
