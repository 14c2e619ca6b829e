pub mod Lines
pub mod Make
