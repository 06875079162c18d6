pub mod CompleteForms
pub mod CompleteReading
pub mod FollowLaws
pub mod SoundForms
pub mod SoundReading
pub mod StatementLaws
