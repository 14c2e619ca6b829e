mod Known
pub mod Seats
pub mod Rows
pub mod Elsewhere
