pub mod Laws
pub mod OneToken
pub mod Phrases
pub mod Scanning
pub mod Tokens
pub mod Words
