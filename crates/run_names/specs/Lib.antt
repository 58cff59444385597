pub mod Called
pub mod Labelled
pub mod Text
pub mod Fit
