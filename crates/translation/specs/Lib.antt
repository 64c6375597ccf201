-- What the code of a let is held to, and the translator's answer.
pub mod Lets
pub mod Answers
