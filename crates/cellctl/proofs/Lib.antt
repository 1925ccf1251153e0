mod Overs
mod Commanded
mod Drawn
mod Lefts
mod News
mod Buffers
