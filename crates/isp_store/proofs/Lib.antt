mod Passing
mod Keeping
mod Spelling
mod Putting
mod Cleaned
mod Logged
mod Fields
mod Opened
