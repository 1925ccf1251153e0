pub mod RowForms
pub mod FrameForms
pub mod SameRows
pub mod Keepings
pub mod Pieces
pub mod Hearing
