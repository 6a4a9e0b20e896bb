pub mod Constants
pub mod Offsets
pub mod Waveforms
