pub mod Counts
pub mod Falls
