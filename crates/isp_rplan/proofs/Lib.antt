pub mod BeginLaws
mod BoxLaws
pub mod DivideLaws
pub mod KnownLaws
mod OneLaws
pub mod RootLaws
pub mod StepLaws
