pub mod Behind
pub mod Numbers
pub mod Naming
pub mod Filling
