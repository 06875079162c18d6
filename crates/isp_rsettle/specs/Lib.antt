pub mod Placed
pub mod Settling
