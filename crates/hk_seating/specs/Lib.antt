pub mod Dealing
pub mod Seating
pub mod ByNumber
