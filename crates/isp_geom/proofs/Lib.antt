pub mod AllPoints
pub mod Forms
pub mod LeastBox
pub mod Levels
pub mod Readers
pub mod Sequences
pub mod Spellings
pub mod Whole
