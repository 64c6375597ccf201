-- The kinds and the fields of a record whose temporary takes what others give.
use Prim.Native.Nat.{ℕ, ◌<◌}
use native.Mathlib.Omega.{arith}
use mathlib.Core.List.{List}
use mathlib.Core.Logic.{◌≢◌, inl, inr}
use mathlib.Core.Path.{◌≡◌}
use Rattle.rules.specs.Kinds.{target, statement}
use Rattle.rules.specs.Records.{kind_of, child_c}
use Rattle.rules.specs.Nodes.{HasSort}
use Rattle.rules.proofs.Runs.StatementArms.{statement-form}
use Rattle.rules.proofs.Runs.TargetFields.{operation-fields, query-fields}
use Rattle.watched_steps.specs.Steps.{IsTake}

-- the last kind is what is left
pub take_last : {k : ℕ} → IsTake k → k ≢ 63 → k ≢ 64 → k ≡ 65
take_last (inl e) a b = absurd (a e)
take_last (inr (inl e)) a b = absurd (b e)
take_last (inr (inr e)) a b = e

-- field C is a byte's number
pub chosen-fits : (t : List ℕ) (n : ℕ) → HasSort target statement t n → IsTake (kind_of t n) → child_c t n < 256
chosen-fits t n h (inl e) = let f = operation-fields t n h e in omega (arith, f.2)
chosen-fits t n h (inr (inl e)) = let f = query-fields t n h e in omega (arith, f.2)
chosen-fits t n h (inr (inr e)) = omega (arith, (statement-form target t n h 65 e).c)
