pub mod RunProofs
