pub mod Binding
pub mod Creating
pub mod Fitting
pub mod Literals
pub mod Meaning
pub mod Numbers
pub mod Refusals
