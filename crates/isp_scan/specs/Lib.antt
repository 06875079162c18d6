pub mod Keys
pub mod Leaves
pub mod Readings
pub mod Scanning
