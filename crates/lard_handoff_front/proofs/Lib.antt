pub mod Rows
pub mod Offers
pub mod Returns
