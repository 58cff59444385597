pub mod Lines
pub mod Alike
