pub mod ValidTexts
pub mod LineRoles
pub mod ReadLines
pub mod ReadBack
