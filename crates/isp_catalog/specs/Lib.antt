pub mod Catalogue
pub mod Laws
pub mod Limits
pub mod Reading
pub mod Writing
