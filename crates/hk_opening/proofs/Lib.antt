pub mod Back
pub mod Order
pub mod Out
pub mod Unused
