mod Staying
mod Refusals
mod Ending
mod Reading
mod Lasting
mod Opening
mod Naming
mod Showing
mod Closing
mod Looking
pub mod AsBox
mod Hitting
