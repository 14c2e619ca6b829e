mod SceneEnds
mod LastLines
pub mod EndsTold
pub mod Listening
pub mod Logs
pub mod Tallies
pub mod Unrefused
pub mod MadeLines
