pub mod SoundLaws
pub mod ServedLaws
