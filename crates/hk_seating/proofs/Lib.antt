pub mod Lists
pub mod Dealt
pub mod Alike
pub mod Seats
pub mod Facts
pub mod Numbers
