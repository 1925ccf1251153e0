pub use Rattle.rows_cell.specs.Rows
pub use Rattle.rows_cell.specs.Sound
pub use Rattle.rows_cell.specs.Stores
pub mod Forms
pub mod Frames
pub mod Laws
pub mod Keeping
pub mod Asking
