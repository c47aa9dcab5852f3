pub mod Growing
pub mod Following
pub mod Firsts
pub mod Numbered
