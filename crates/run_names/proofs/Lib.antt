pub mod Apart
pub mod Kept
pub mod Pushed
pub mod Peel
pub mod Calls
