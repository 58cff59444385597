pub mod Answers
pub mod Bounds
pub mod Forms
pub mod Words
