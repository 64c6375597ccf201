-- What the statements on temporaries answer and leave.
use Rattle.std.specs.Prelude.{ℕ, suc, cond, List, ◌⊎◌, ◌≡◌, eqb, set, Result, Ok, Err, Some}
use Rattle.rules.specs.Nodes.{operator_of, query_of}
use Rattle.rules.specs.Memory.{on_value}
use Rattle.rules.specs.Evaluation.{operated, opposite}
use Rattle.rules.specs.Observation.{Observation, live_record, query_observation}
use Rattle.rules.specs.Watched.{Temporaries, held_in}
use Rattle.rules.specs.Types.{Evaluated}
use Rattle.rules.specs.declared.{Stop.Stop}
use Rattle.evaluation_temporaries.specs.Bytes.{temporaries_of}

-- what taking what was evaluated answers, and the temporaries after temporary n took it
abbrev pub taken_result : Evaluated → Result Unit Stop
taken_result (Ok v) = Ok tt
taken_result (Err c) = Err c

abbrev pub taken_into : Temporaries → ℕ → Evaluated → Temporaries
taken_into τ n (Ok v) = set τ n (Some v)
taken_into τ n (Err c) = τ

pub record Takes (entry exit : List ℕ) (r : Result Unit Stop) (n : ℕ) (e : Evaluated) : Type 0 where
  pub result : r ≡ taken_result e
  pub temporaries : temporaries_of exit ≡ taken_into (temporaries_of entry) n e

-- what temporary n takes: 63 operator c of the two after it, 64 query c of the one after it, 65 that one's opposite
abbrev pub IsTake : ℕ → Type 0
IsTake k = (k ≡ 63) ⊎ (k ≡ 64) ⊎ (k ≡ 65)

abbrev pub taken_of : ℕ → ℕ → Temporaries → ℕ → Observation → Evaluated
taken_of k c τ n o =
    cond (eqb k 63) (operated (live_record o) (operator_of c) (held_in τ (suc n)) (held_in τ (suc (suc n))))
    (on_value (held_in τ (suc n)) Err (cond (eqb k 64) (query_observation (query_of c) o) opposite))
