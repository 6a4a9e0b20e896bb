pub mod Numbers
pub mod Lines
pub mod Ends
pub mod Examples
