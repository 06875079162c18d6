pub mod Paths
pub mod Reaching
