pub mod PairLaws
pub mod NamedLaws
pub mod TrueLaws
