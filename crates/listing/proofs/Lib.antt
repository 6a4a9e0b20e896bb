pub mod Examples
pub mod Joins
