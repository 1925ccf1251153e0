pub mod Histories
pub mod Takings
pub mod Ended
