-- Laws of the operators on whole numbers.
pub mod Signs
pub mod Nearest
