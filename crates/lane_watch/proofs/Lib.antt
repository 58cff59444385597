pub mod Dated
pub mod Noticed
pub mod Polled
pub mod Asleep
pub mod Given
pub mod Joined
pub mod Shown
