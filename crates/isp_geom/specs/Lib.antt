pub mod Bounds
pub mod Laws
pub mod Reading
pub mod Rules
pub mod Spelling
