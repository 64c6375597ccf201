-- What a statement's changes of the execution memory are held to.
pub mod Changing
