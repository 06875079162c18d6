pub mod AloneFits
pub mod AloneLaws
pub mod AloneSerial
pub mod GivenLaws
pub mod SpellingLaws
