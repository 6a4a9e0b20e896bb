pub mod Floating
pub mod Loop
