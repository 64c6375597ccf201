-- What a form is.
pub mod Forms
