pub mod Faults
pub mod Putting
