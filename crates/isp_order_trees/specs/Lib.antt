pub mod TreeOrder
pub mod Missed
