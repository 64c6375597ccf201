-- What the code of the temporaries is held to.
pub mod Bytes
