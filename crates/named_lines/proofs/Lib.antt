pub mod Parts
pub mod Events
