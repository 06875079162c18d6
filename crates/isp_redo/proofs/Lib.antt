mod Ahead
mod Laying
pub mod PlaceLaws
mod Positions
mod Steps
