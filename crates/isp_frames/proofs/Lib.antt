pub mod NowLaws
pub mod PageLaws
pub mod PinLaws
pub mod KeptLaws
pub mod HeldLaws
mod Gathering
pub mod CacheLaws
mod UseOrder
pub mod StayLaws
mod Checkpoint
