-- What a record is translated to.
pub mod Trees
