pub mod Entries
pub mod Formers
pub mod Keys
pub mod OneKey
pub mod Wakes
