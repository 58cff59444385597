pub mod Sorted
pub mod Merges
pub mod Reached
pub mod PassMerges
pub mod Ports
pub mod WorkQueues
pub mod LetterQueues
pub mod Changed
