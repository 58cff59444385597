pub mod Alike
pub mod Asking
pub mod Endings
pub mod Parts
pub mod Prefixes
pub mod Setups
pub mod Statuses
