-- Laws of tests.
pub mod TestLaws
