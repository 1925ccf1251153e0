pub mod Found
pub mod PlacedHandles
mod OpenOn
mod OwnedHandles
mod Seats
mod NamedNodes
pub mod Forgotten
pub mod Appended
pub mod FirstEntries
mod IndexedNodes
mod Noted
mod Kept
mod Looked
mod Parted
mod Moved
mod FirstIdle
mod Tidied
