pub mod Statuses
pub mod Kept
pub mod Monitored
pub mod Ready
pub mod Numbered
pub mod Opened
pub mod Ends
