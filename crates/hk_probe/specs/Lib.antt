pub mod Comparison
pub mod Search
pub mod Single
pub mod Inside
