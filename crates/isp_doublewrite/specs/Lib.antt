pub mod Batches
pub mod Lists
pub mod Places
pub mod Restores
