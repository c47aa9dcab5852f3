pub mod Lateral
pub mod Laws
