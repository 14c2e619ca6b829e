pub mod Seen
pub mod Arriving
pub mod Printing
pub mod Stations
pub mod Hearing
pub mod Obeying
pub mod Settling
pub mod Tasks
pub mod Taking
pub mod Finishing
pub mod Ending
pub mod Opens
mod Listening
