pub mod Statuses
mod Read
