pub mod Moves
pub mod Once
pub mod Shift
pub mod Shows
pub mod Still
pub mod Taps
