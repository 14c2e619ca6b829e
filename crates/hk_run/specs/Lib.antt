pub mod Course
pub mod Holding
pub mod Playing
