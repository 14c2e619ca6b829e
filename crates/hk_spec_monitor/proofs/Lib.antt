pub mod Legal
pub mod Logs
mod OneLine
