pub mod Turning
pub mod Owing
pub mod Refusing
