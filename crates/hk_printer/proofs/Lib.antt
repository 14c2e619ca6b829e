pub mod Growing
pub mod Limits
pub mod Taking
