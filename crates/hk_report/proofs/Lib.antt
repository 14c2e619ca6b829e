mod Fronts
mod Numbers
mod Stopping
mod Items
mod Heads
mod Places
