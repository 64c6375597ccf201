-- Laws of fills.
mod Filled
