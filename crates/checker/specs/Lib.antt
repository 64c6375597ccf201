pub mod Notes
pub mod Scopes
pub mod Order
