pub mod Fields
pub mod Stamps
pub mod Scores
pub mod Given
