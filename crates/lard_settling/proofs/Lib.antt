pub mod Alike
pub mod Folds
pub mod Plain
pub mod Written
