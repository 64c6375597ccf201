-- The block that has a mark, by the bytes.
pub mod OwnerEnds
