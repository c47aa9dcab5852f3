pub mod Journal
pub mod Laws
pub mod Own
pub mod Steps
