pub mod Rounds
pub mod Tests
pub mod Ripening
