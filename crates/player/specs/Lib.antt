pub mod Into
pub mod Listing
pub mod ScoreCalls
pub mod Steps
