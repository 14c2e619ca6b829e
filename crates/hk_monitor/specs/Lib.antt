pub mod Rows
pub mod Seats
pub mod Crew
pub mod Closing
pub mod Over
