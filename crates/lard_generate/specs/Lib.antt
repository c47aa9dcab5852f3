pub mod Clients
pub mod Draws
pub mod Files
pub mod Generated
pub mod Laws
pub mod Rounds
pub mod Worked
