-- What a change answers and leaves, from what its parts did.
use Prim.Native.Nat.{ℕ}
use mathlib.Core.Path.{◌≡◌, refl, sym, subst}
use mathlib.Core.List.{List}
use Rattle.std.specs.Prelude.{Ok}
use Rattle.rules.specs.Observation.{Observation, Noted, noted}
use Rattle.observation_blocks.specs.Changes.{ObservationBecomes}
use Rattle.observation_answers.specs.Calls.{Answers}

pub answers-noted : (l l' : List ℕ) {n : Noted} {o : Observation} → n ≡ noted o → ObservationBecomes l l' o
    → Answers l l' (Ok tt) n
answers-noted l l' e b = subst (Answers l l' (Ok tt)) (sym e) (record { answer = refl; memory = b })
