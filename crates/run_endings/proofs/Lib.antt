-- Laws of endings.
pub mod EndingLaws
