pub mod Commands
pub mod Script
