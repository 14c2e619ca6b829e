pub mod Ranges
pub mod Weak
pub mod Drawing
pub mod Before
pub mod Lengths
pub mod Rounds
pub mod Played
