mod Notes
mod TakenOver
pub mod TakeCases
pub mod Told
pub mod AskedFor
pub mod EffectShapes
mod Limited
pub mod Within
mod RoomAsked
