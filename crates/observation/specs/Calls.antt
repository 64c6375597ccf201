-- What a change answers and leaves.
pub use Rattle.observation_answers.specs.Calls.{ObservationBecomes, Answers, noted_result}
