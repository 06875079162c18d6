pub mod Boxes
pub mod Corners
pub mod Laws
pub mod Predicates
