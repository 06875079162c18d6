pub mod FileLaws
pub mod ImageLaws
mod Moves
