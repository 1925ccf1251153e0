pub mod Orders
pub mod Changes
pub mod Jumps
pub mod Walks
pub mod Seen
pub mod Contents
pub mod Reach
