pub mod Apart
pub mod LocalLaws
