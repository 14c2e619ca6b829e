pub mod Account
pub mod Reasons
pub mod Torn
