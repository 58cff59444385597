pub mod Adding
pub mod BitWords
pub mod Levels
pub mod Causes
