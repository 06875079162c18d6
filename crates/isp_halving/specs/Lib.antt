pub mod Calls
pub mod Halved
pub mod Standing
