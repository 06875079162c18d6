pub mod RowProofs
pub mod ChangeProofs
pub mod TableProofs
pub mod StageProofs
pub mod WorkedProofs
