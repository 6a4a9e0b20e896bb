pub mod Engines
pub mod Filling
pub mod Lookup
