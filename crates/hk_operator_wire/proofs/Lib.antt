pub mod Reading
pub mod Bringing
pub mod Saying
pub mod Coming
pub mod Ending
pub mod Payloads
mod Moving
pub mod Taking
