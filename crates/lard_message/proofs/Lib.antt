pub mod Loops
pub mod Tables
pub mod Fields
pub mod Layouts
pub mod Spelled
pub mod Whole
pub mod Written
