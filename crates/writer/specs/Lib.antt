pub mod Writer
pub mod Writing
