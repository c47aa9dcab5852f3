pub mod Laws
pub mod Recency
