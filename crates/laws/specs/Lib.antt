pub mod Build
pub mod Charges
pub mod Cycle
pub mod Times
