pub mod Feeding
pub mod Hearing
pub mod Outcome
pub mod SinceStart
pub mod Prefix
