mod Counting
mod Feeds
mod Finding
mod Judging
mod Keeping
mod Places
mod Words
mod Sections
pub mod Reading
