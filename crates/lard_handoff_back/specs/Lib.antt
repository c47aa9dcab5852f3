pub mod Row
pub mod Back
pub mod Table
pub mod Leaving
pub mod Laws
