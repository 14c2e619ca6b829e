pub mod Part
pub mod Reader
