pub mod Periods
pub mod Quiet
pub mod Readback
