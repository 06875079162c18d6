pub mod CellLaws
pub mod EditLaws
pub mod RowLaws
