mod Worked
pub mod CatalogueLaws
pub mod ColumnLoop
pub mod DefinitionLaws
pub mod ReadLaws
pub mod Standing
pub mod Turns
pub mod WritingLaws
