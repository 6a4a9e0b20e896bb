pub mod Clock
pub mod Expiry
pub mod Fade
pub mod Kept
pub mod Lost
