pub mod Course
pub mod Clerks
