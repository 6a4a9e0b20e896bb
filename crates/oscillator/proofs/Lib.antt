pub mod Alike
pub mod Chains
pub mod Due
pub mod Feedback
pub mod Floats
pub mod Parts
pub mod Pulse
