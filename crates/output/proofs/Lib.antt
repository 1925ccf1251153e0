pub mod Fronts
mod Rooms
mod Parts
