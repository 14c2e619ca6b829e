mod Blank
pub mod StillKept
