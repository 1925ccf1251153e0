pub use Rattle.lease_core.specs.Lease
pub mod Ends
pub mod Register
pub mod Keepers
pub mod Numbers
