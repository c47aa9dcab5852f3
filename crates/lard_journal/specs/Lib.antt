pub mod Inner
pub mod Range
pub mod Report
pub mod Text
