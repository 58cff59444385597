pub mod Course
pub mod Within
pub mod Standing
pub mod Gifts
pub mod Told
pub mod Gained
