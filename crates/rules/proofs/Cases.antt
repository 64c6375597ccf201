-- What is worked out on paper, by computation from the definitions.
pub mod FirstCases
pub mod CommonErrors
pub mod PointerCases
pub mod Cases
