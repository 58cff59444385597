pub mod Found
pub mod Walk
pub mod Cutoff
pub mod Selects
pub mod Wait
pub mod Called
pub mod Lent
pub mod Phased
pub mod AtTwo
pub mod InClasses
pub mod Candidates
pub mod Unblocked
pub mod Standings
pub mod AtFour
mod Pushing
