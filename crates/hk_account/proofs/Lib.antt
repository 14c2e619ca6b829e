mod Moments
mod Steps
mod Sums
pub mod Course
pub mod Accounts
pub mod Torn
pub mod Reasons
