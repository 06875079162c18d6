pub mod Order
pub mod Measure
