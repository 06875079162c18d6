pub mod SessionFrames
pub mod RowChanges
pub mod SeenRows
pub mod CommittedFrames
