pub mod HeldLaws
pub mod KeyLaws
pub mod LeafLaws
pub mod RowLaws
pub mod TakenLaws
pub mod UpdatedLaws
