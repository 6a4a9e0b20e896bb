pub mod Clocks
pub mod Engines
pub mod Fades
pub mod Lines
pub mod Loops
pub mod Played
pub mod Watched
