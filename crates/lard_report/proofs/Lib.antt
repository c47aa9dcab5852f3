pub mod Apart
pub mod Fits
pub mod Found
pub mod Lines
pub mod Pieces
pub mod Prefaces
pub mod Ranges
