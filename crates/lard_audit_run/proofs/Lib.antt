mod Apart
mod Back
mod Causes
pub mod Ending
mod Fronts
mod Going
mod One
mod Passing
mod Reading
mod Whole
