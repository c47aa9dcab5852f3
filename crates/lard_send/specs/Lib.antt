pub mod Rest
pub mod Send
