mod Gathered
pub mod Unread
mod Contents
mod Cuts
mod Decimals
mod Lifts
mod LineWords
mod Options
mod Ticks
mod Written
pub mod Turns
mod Doings
mod FirstLines
mod RunsOf
mod Crashings
