pub mod FullProofs
