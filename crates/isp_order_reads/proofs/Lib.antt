pub mod RowFrames
pub mod StandingLaws
pub mod ScanParts
pub mod ScannedLaws
pub mod KeysLaws
