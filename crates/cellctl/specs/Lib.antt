pub mod Taken
pub mod Led
pub mod Closed
pub mod Left
pub mod Anew
pub mod Exits
pub mod Tested
pub mod Secrets
