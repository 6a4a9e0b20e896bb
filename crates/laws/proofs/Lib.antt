pub mod After
pub mod Bools
pub mod Build
pub mod Cond
pub mod Loops
pub mod Masks
pub mod Table
pub mod Times
