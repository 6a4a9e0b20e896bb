pub mod Turn
pub mod Wired
