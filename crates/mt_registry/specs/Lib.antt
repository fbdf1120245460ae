pub mod Misstated
pub mod ReadLines
pub mod RegistryErrors
pub mod RegistryForms
pub mod RegistryLaws
pub mod SeenBlock
pub mod SeenForm
pub mod Sound
