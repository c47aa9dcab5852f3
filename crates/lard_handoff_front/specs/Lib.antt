pub mod Row
pub mod Front
pub mod Returns
pub mod Laws
