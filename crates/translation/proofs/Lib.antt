-- Facts about statements with statements below them, and about accepted tables.
pub mod Compounds
pub mod Accepting
pub mod Rooms
pub mod LetLaws
