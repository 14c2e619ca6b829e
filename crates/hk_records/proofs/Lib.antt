mod Bodies
pub mod Reading
mod Stretching
