mod Cheapest
mod Members
