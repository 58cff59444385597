pub mod Meaning
pub mod Answer
pub mod Writing
