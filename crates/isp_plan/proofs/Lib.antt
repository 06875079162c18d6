mod BoundLaws
mod EachLaws
pub mod FaithfulLaws
pub mod FitLaws
mod NumberLaws
mod RefusalLaws
mod RowLaws
pub mod WrittenLaws
