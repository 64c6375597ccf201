-- Tests, searches, numbers in bytes, lists and rows of records.
pub mod BooleanLaws
pub mod Among
pub mod SearchLaws
pub mod Lists
pub mod WordLaws
pub mod Rows
pub mod FillLaws
pub mod RecordLaws
pub mod RunLaws
