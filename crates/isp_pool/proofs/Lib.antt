mod ChainLaws
mod PoolLaws
mod OrderLaws
pub mod StateLaws
