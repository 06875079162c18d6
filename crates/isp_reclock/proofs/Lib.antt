pub mod BlockerLemmas
pub mod LockLemmas
