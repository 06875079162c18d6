mod PagesWorked
mod Worked
pub mod ControlBytes
pub mod DefinitionOnce
pub mod EmptyPages
pub mod Headers
mod Heading
pub mod Local
mod Listing
pub mod LogOnce
pub mod LogWalks
pub mod Offsets
pub mod PageOnce
pub mod Parts
pub mod Places
pub mod Puts
pub mod Slices
pub mod SpaceLaws
pub mod Standing
