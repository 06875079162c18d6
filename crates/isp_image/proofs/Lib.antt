pub mod FaultLaws
pub mod FileLaws
pub mod KeyedLaws
pub mod ListLaws
pub mod LocalLaws
pub mod OwnerLaws
pub mod SeenLaws
pub mod ShownLaws
pub mod StepLaws
pub mod StoredLaws
pub mod TreeChanges
mod Worked
