mod Turns
mod Lists
