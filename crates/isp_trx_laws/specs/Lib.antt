pub mod Written
pub mod FileStages
pub mod Laws
