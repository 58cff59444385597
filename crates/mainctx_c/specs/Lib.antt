pub mod Form
pub mod Room
