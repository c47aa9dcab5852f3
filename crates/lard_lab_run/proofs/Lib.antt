mod Apart
mod Causing
mod Endings
mod Follows
mod Numbers
pub mod Going
pub mod Passing
pub mod Pieces
pub mod Spelled
