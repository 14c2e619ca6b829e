pub mod Doing
pub mod MadeLine
pub mod Counting
