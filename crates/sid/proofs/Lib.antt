pub mod Answers
pub mod Joined
pub mod Ticks
pub mod Turn
