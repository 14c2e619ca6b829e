pub mod Doing
pub mod Concluding
pub mod Attending
