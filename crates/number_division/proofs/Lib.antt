-- Laws of the two divisions.
mod Nearest
