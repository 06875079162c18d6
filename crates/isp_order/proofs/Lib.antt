pub mod SessionLaws
pub mod TableLaws
pub mod RowLaws
pub mod RestedLaws
