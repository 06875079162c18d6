pub mod RestedLaws
