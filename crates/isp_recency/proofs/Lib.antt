pub mod RecentLaws
mod Places
