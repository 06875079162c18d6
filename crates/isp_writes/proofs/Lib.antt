pub mod UndoLaws
pub mod WriteLaws
