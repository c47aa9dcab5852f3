pub mod Ledger
pub mod Stores
