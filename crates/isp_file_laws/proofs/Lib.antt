pub mod EachLaws
pub mod EmptyLaws
pub mod KeptLaws
pub mod RowKeyLaws
