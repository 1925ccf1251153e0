pub mod Calls
pub mod Count
pub mod Counting
pub mod Flaws
pub mod Lists
pub mod Replay
pub mod Settling
pub mod StepFacts
