pub mod Faults
pub mod Grammar
pub mod Laws
pub mod Printed
pub mod Reading
pub mod Words
