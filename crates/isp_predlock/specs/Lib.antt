pub mod Tables
pub mod Entering
pub mod Testing
pub mod Inside
pub mod MachineWords
