mod Levels
mod Reach
mod Ascends
mod Whole
mod Entries
mod Refusals
