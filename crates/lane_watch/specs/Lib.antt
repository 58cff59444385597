pub mod Tasks
pub mod Watch
pub mod Shown
