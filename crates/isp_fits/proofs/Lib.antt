pub mod VictimLaws
pub mod CountLaws
pub mod FitProofs
pub mod RunProofs
