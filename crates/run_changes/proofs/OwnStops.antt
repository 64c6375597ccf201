-- Changes whose errors are stops: what the code of any errors says of these.
use Prim.Native.Nat.{ℕ}
use mathlib.Core.List.{List}
use mathlib.Core.Path.{◌≡◌, refl, ap, ◌∙◌}
use Rattle.std.specs.Prelude.{Result, Ok, Err}
use Rattle.std.proofs.lemmas.Result.{err_from_is_err_and}
use Rattle.rules.specs.Memory.{Memory, Change, changed, stopped, assigned, allocated, freed}
use Rattle.rules.specs.Layout.{memory_of}
use Rattle.rules.specs.Types.{Evaluated, Found}
use Rattle.rules.specs.declared.{Stop.Stop}
use Rattle.run_changes.specs.Changing.{Does, DoesAs, IfGiven}
use Rattle.run_changes.proofs.ChangeLaws.{becomes-same}

-- a stop goes out as itself
abbrev pub itself : Stop → Stop → Type 0
itself k c = c ≡ k

module _ {r : Result Unit Stop} {a b : List ℕ} where
  does-itself : (x : Change Memory) → DoesAs itself x r a b → Does x r a b
  does-itself (changed m) h = record { result = h.result; memory = h.memory }
  does-itself (stopped k m) h =
      let e = err_from_is_err_and r h.result in
      record { result = e.1 ∙ ap Err e.2; memory = h.memory }

  does-nothing : (k : Stop) → (r ≡ Err k) × (b ≡ a) → Does (stopped k (memory_of a)) r a b
  does-nothing k h = record { result = h.0; memory = rw h.1 (becomes-same refl) }

  pub does_assigned : (f : Found) (e : Evaluated)
      → IfGiven f (λ p. IfGiven e (λ v. DoesAs itself (assigned (memory_of a) (Ok p) (Ok v)) r a b) r a b) r a b
      → Does (assigned (memory_of a) f e) r a b
  does_assigned (Ok p) (Ok v) h = does-itself (assigned (memory_of a) (Ok p) (Ok v)) h
  does_assigned (Ok p) (Err k) h = does-nothing k h
  does_assigned (Err k) e h = does-nothing k h

  pub does_allocated : (f : Found) (e : Evaluated)
      → IfGiven f (λ p. IfGiven e (λ v. DoesAs itself (allocated (memory_of a) (Ok p) (Ok v)) r a b) r a b) r a b
      → Does (allocated (memory_of a) f e) r a b
  does_allocated (Ok p) (Ok v) h = does-itself (allocated (memory_of a) (Ok p) (Ok v)) h
  does_allocated (Ok p) (Err k) h = does-nothing k h
  does_allocated (Err k) e h = does-nothing k h

  pub does_freed : (e : Evaluated) → IfGiven e (λ v. DoesAs itself (freed (memory_of a) (Ok v)) r a b) r a b
      → Does (freed (memory_of a) e) r a b
  does_freed (Ok v) h = does-itself (freed (memory_of a) (Ok v)) h
  does_freed (Err k) h = does-nothing k h
