pub mod Fits
pub mod Told
pub mod RowsIn
pub mod Asked
pub mod Literals
