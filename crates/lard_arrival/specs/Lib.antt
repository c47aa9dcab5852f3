pub mod Arrival
