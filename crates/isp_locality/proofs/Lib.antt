pub mod RowLocal
pub mod TableLocal
pub mod Framing
