pub use Rattle.watch_cell.specs.Closing
pub use Rattle.watch_cell.specs.Views
pub mod Bounds
