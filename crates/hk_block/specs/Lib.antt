pub mod Ring
pub mod Room
pub mod Looker
