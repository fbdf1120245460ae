pub mod Determined
pub mod Have
pub mod InTexts
pub mod Joined
pub mod Known
pub mod Parts
pub mod Standing
pub mod Values
