pub mod Changes
pub mod Giving
pub mod Spaces
