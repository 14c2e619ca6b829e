pub mod Feeding
pub mod Hearing
pub mod Outcomes
pub mod UsedBytes
pub mod SinceStart
pub mod Listening
