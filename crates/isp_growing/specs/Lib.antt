pub mod Calls
pub mod Grown
pub mod Paths
pub mod Rising
pub mod Taking
