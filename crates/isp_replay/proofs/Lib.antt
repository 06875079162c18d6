mod LogBytes
mod PoolAfter
mod PutLaws
mod Replayed
