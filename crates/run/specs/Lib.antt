pub mod Answers
pub mod Loop
pub mod Render
