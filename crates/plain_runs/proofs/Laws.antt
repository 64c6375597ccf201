-- How outcomes are put together: from what holds of the parts' outcomes to what holds of the whole's.
use Prim.Native.Nat.{ℕ}
use mathlib.Core.List.{List}
use mathlib.Core.Path.{◌≡◌, refl, sym, ap₂, ◌∙◌, subst}
use Rattle.std.specs.Prelude.{Result, Ok, Err, true, false, IsErrAnd}
use Rattle.std.proofs.lemmas.Result.{err_from_is_err_and}
use Rattle.rules.specs.Memory.{Memory, Change, changed, stopped}
use Rattle.rules.specs.Evaluation.{Variables}
use Rattle.rules.specs.Flow.{Outcome, finished, ended, ending, into, next, after}
use Rattle.rules.specs.Plain.{asserted}
use Rattle.rules.specs.Layout.{memory_of}
use Rattle.rules.specs.Types.{Test}
use Rattle.rules.specs.declared.{Progress.Progress, Stop.Stop}
use Rattle.memory_cells.specs.Changes.{Becomes}
use Rattle.run_changes.specs.Changing.{Does}
use Rattle.run_changes.proofs.ChangeLaws.{becomes-same, becomes-then}
use Rattle.run_endings.specs.Ending.{Ended, concluded, asserted_true, after_statement, ended_with}
use Rattle.run_endings.proofs.EndingLaws.{ended-statement}
use Rattle.plain_runs.specs.Running.{EndsSo, Ran}

-- an equal outcome
pub ends-is : {o p : Outcome Memory} {r : Ended} {a b : List ℕ} → o ≡ p → EndsSo p r a b → EndsSo o r a b
ends-is {r = r} {a = a} {b = b} e h = subst (λ (x : Outcome Memory). EndsSo x r a b) (sym e) h

-- after what came before
pub ends-from : {o : Outcome Memory} {r : Ended} {m : Memory} {a b c : List ℕ} → Becomes a b m → EndsSo o r b c
    → EndsSo o r a c
ends-from p h = record { answer = h.answer; memory = becomes-then p h.memory }

-- nothing changed
pub ends-finished : (l : List ℕ) (f : ℕ) → EndsSo (finished (memory_of l) f) (Ok f) l l
ends-finished l f = record { answer = refl; memory = becomes-same refl }

-- which child a statement is no answer tells
pub ends-into : (n : ℕ) (o : Outcome Memory) {r : Ended} {a b : List ℕ} → EndsSo o r a b → EndsSo (into n o) r a b
ends-into n (finished x f) h = h
ends-into n (ended c s ρ w x f) h = record { answer = h.answer; memory = h.memory }

-- what follows child n, and that nothing does where it stopped
module _ (n : ℕ) (k : Memory → ℕ → Outcome Memory) (p : Progress) {a b : List ℕ} where
  pub ends-then : (o : Outcome Memory) {r : Ended} {c : List ℕ} → Ran o (Ok tt) p a b
      → EndsSo (k (memory_of b) p.fuel) r b c → EndsSo (next (into n o) k) r a c
  ends-then (finished x f) {r} {c} w h =
      let e : p.fuel ≡ f = cc in
      subst (λ (y : Outcome Memory). EndsSo y r a c) (ap₂ k w.memory.view e) (ends-from w.memory h)
  ends-then (ended d s ρ v x f) w h = absurd (cc)

  pub ends-stopped : (o : Outcome Memory) (c : Stop) → Ran o (Err c) p a b → Ran (next (into n o) k) (Err c) p a b
  ends-stopped (finished x f) c w = absurd (cc)
  ends-stopped (ended d s ρ v x f) c w = record { answer = w.answer; memory = w.memory }

-- what finished has the fuel that it left
pub finished-fuel : (o : Outcome Memory) (p : Progress) {a b : List ℕ} → Ran o (Ok tt) p a b → (ending o).fuel ≡ p.fuel
finished-fuel (finished x f) p w = cc
finished-fuel (ended c s ρ v x f) p w = absurd (cc)

-- statement n, which makes one change, comes out as the change does
change-ends : (n : ℕ) (ρ : Variables) (f : ℕ) (x : Change Memory) {s : Result Unit Stop} {a b : List ℕ} → Does x s a b
    → EndsSo (after n ρ f x) (concluded s n f) a b
change-ends n ρ f (changed m) w = record { answer = rw w.result refl; memory = w.memory }
change-ends n ρ f (stopped c m) w = record { answer = rw w.result refl; memory = w.memory }

pub ran-does : {o : Outcome Memory} (n : ℕ) (ρ : Variables) (p : Progress) (x : Change Memory)
    {q : Progress} {r s : Result Unit Stop} {a b : List ℕ}
    → o ≡ after n ρ p.fuel x → Does x s a b → r ≡ s → q ≡ after_statement p s n → Ran o r q a b
ran-does n ρ p x {s = s} e w i u =
    let h = change-ends n ρ p.fuel x w in
    ends-is e (record { answer = ap₂ ended_with i u ∙ ended-statement p s n ∙ h.answer; memory = h.memory })

-- an assertion changes nothing
pub does-asserted : (t : Test) {s : Result Unit Stop} {l : List ℕ} → s ≡ asserted_true t
    → Does (asserted (memory_of l) t) s l l
does-asserted (Ok true) e = record { result = e; memory = becomes-same refl }
does-asserted (Ok false) e = record { result = e; memory = becomes-same refl }
does-asserted (Err c) e = record { result = e; memory = becomes-same refl }

-- what stopped comes back by a `?`
pub ran-exits : {o : Outcome Memory} (r : Result Unit Stop) {c : Stop} {p : Progress} {a b : List ℕ}
    → IsErrAnd r (λ e. e ≡ c) → Ran o (Err c) p a b → Ran o r p a b
ran-exits r h w = let e = err_from_is_err_and r h in rw (e.1, e.2) w
