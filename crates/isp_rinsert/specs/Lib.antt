pub mod Applying
pub mod Calls
pub mod Inserting
pub mod Preparing
pub mod Ways
