pub mod Steps
mod Endings
