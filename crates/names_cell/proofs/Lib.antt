pub mod Children
pub mod ComponentLemmas
pub mod Fronts
pub mod Lasts
pub mod Lines
pub mod Parts
pub mod Subtrees
