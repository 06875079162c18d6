pub mod ImageLaws
pub mod CommittedLaws
pub mod OneStatusLaws
pub mod NamedLaws
