pub mod Cells
pub mod LeafPages
pub mod Rows
