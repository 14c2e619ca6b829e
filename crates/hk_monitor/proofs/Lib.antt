mod Songs
mod Histories
pub mod Gathering
mod Picking
mod Firsts
mod Seats
mod Workers
