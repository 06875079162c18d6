pub mod ListParts
pub mod RefusalChoices
pub mod PlaceChoices
pub mod PutChoices
pub mod NextLaws
