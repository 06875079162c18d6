pub mod WorkParts
pub mod BeforeLaws
pub mod TableLockLaws
pub mod BoundLaws
pub mod WrittenLaws
