pub mod Cuts
pub mod Made
