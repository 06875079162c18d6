pub mod Modes
pub mod Tables
pub mod Blockers
pub mod Order
pub mod Holders
