pub mod Sums
pub mod OptionSteps
pub mod InOrder
pub mod Written
pub mod Again
pub mod Decoded
