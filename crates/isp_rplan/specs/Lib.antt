pub mod Plans
pub mod Divisions
