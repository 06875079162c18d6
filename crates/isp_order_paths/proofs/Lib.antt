pub mod PathLaws
pub mod CollectedLaws
