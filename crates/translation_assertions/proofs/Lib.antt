-- Facts about terms and predicates.
pub mod Tests
pub mod TestSteps
pub mod Rooms
