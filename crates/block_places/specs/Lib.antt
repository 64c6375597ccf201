-- What a block record's words say together, and a search among places.
pub mod Ends
pub mod Runs
