pub mod FallingLaws
pub mod UndoLaws
