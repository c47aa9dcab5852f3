pub mod Events
pub mod Files
pub mod Laws
pub mod Reader
pub mod Words
