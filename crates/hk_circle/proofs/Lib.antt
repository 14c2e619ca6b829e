pub mod Refining
pub mod Filling
