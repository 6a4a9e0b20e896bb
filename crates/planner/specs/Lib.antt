pub mod Planner
pub mod Skips
