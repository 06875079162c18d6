pub mod Dividing
pub mod Edits
pub mod Inners
pub mod Levels
pub mod Walks
