pub mod Choices
pub mod Options
pub mod Rules
pub mod Orders
