pub mod Lowers
pub mod Visits
