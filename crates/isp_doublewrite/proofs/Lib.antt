mod InPlace
mod Leaving
mod Numbered
pub mod PlaceLaws
mod Staging
