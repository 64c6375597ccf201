-- What a statement finds in its children.
pub mod Children
