-- What a change of the bytes is, for the crates above.
pub use Rattle.observation_blocks.proofs.BecomesLaws.{becomes-same, becomes-then}
