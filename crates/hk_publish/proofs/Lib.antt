pub mod Journals
pub mod Shared
pub mod Looking
pub mod Editions
pub mod Desks
pub mod Telling
