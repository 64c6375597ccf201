pub mod BecomesLaws
