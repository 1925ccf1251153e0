pub use Rattle.codec.specs.Forms
pub use Rattle.codec.specs.Requests
pub use Rattle.codec.specs.Outs
pub use Rattle.hosting.specs.Blocks
pub use Rattle.hosting.specs.Frames
pub use Rattle.hosting.specs.Told
pub use Rattle.rows_remote.specs.Forms as RowForms
pub use Rattle.rows_remote.specs.Frames as RowFrames
pub mod Codes
pub mod Shown
pub mod Asked
pub mod Said
pub mod Heard
pub mod Written
pub mod Questions
pub mod Edits
pub mod Rows
