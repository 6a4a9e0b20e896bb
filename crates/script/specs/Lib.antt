pub mod Numbers
pub mod Lines
