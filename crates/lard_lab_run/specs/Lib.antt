pub mod Causes
pub mod Items
pub mod Run
pub mod Seen
pub mod Told
pub mod Trial
