pub mod Calls
pub mod Cells
pub mod Found
pub mod Leaves
pub mod Puts
pub mod Rows
pub mod Trees
