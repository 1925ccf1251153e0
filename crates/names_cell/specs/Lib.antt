pub mod Kept
pub mod Text
pub use Rattle.collections.specs.Results
