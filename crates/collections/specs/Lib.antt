pub mod Lent
pub mod Results
pub mod Tables
pub mod Timers
