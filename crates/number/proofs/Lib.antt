-- Laws of integers.
pub mod Integers
