pub mod Fade
pub mod Once
