pub mod Crossing
mod Opened
