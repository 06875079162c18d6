mod Calls
mod Images
mod Keeping
mod Meets
mod Momentary
pub mod MomentLaws
pub mod PhaseLaws
mod Pieces
mod Replay
mod Stopping
mod Storing
