-- Each node of an accepted target table is sound by what its record hands on.
use Prim.Native.Nat.{ℕ}
use native.Mathlib.Omega.{arith}
use mathlib.Core.List.{List}
use mathlib.Core.Path.{refl}
use Rattle.rules.specs.Records.{mark_of, literal_of}
use Rattle.rules.specs.Kinds.{target, Sort, statement_literal}
use lib.IntN.{nat_abs}
use Rattle.rules.proofs.Acceptance.Sound.{Numbered}
use Rattle.rules.proofs.Acceptance.KindViews.{form_at, TargetKind, literal, read, address, operation, shifted}
use Rattle.rules.proofs.Acceptance.KindViews.{variable}
use Rattle.rules.proofs.Acceptance.KindViews.{pointed, temporary, skip, assign, new, free, sequence, branch}
use Rattle.rules.proofs.Acceptance.KindViews.{while, let_in}
use Rattle.rules.proofs.Acceptance.KindViews.{take_address, take_value, take_operation, take_query, take_not}
use Rattle.rules.proofs.Acceptance.KindViews.{branch_on}
use Rattle.rules.proofs.Acceptance.KindViews.{assert_on, store_block, delete_block, initialise}
use Rattle.rules.proofs.Acceptance.FormLaws.{LiteralHolds, node_as}
use Rattle.rules.proofs.Acceptance.RecordScopes.{scope_at, level_at}
use Rattle.rules.proofs.Acceptance.Readiness.{SoundAs, Ready}
use Rattle.rules.proofs.Acceptance.SoundSource.{up_to, plain-operator}

numbered : (t : List ℕ) (n : ℕ) → LiteralHolds statement_literal (literal_of t n) → Numbered (nat_abs (literal_of t n))
numbered t n h = (h.0, h.1)

pub target-arm : (t : List ℕ) (n : ℕ) {s : Sort} {k : ℕ} → TargetKind s k → Ready target t n (form_at target k)
    → SoundAs target s (node_as target k t n) (scope_at target t n) (level_at target t n)
target-arm t n literal r = r.range
target-arm t n read r = r.a
target-arm t n address r = r.a
target-arm t n operation r = (plain-operator (mark_of t n) r.holds.mark, r.a, r.b)
target-arm t n shifted r = (r.a, r.b)
target-arm t n variable r = (omega (arith, up_to 63 (mark_of t n) r.holds.mark), r.uses refl)
target-arm t n pointed r = r.a
target-arm t n temporary r = omega (arith, up_to 63 (mark_of t n) r.holds.mark)
target-arm t n skip r = numbered t n r.holds.literal
target-arm t n assign r = (numbered t n r.holds.literal, r.a, r.b)
target-arm t n new r = (numbered t n r.holds.literal, r.a, r.b)
target-arm t n free r = (numbered t n r.holds.literal, r.a)
target-arm t n sequence r = (numbered t n r.holds.literal, r.a, r.b)
target-arm t n branch r = (numbered t n r.holds.literal, r.a, r.b, r.c)
target-arm t n while r = (numbered t n r.holds.literal, r.a, r.b)
target-arm t n let_in r =
    (numbered t n r.holds.literal, omega (arith, up_to 63 (mark_of t n) r.holds.mark), r.lets refl, r.a)
target-arm t n take_address r =
    (numbered t n r.holds.literal, omega (arith, up_to 63 (mark_of t n) r.holds.mark), r.a)
target-arm t n take_value r =
    (numbered t n r.holds.literal, omega (arith, up_to 63 (mark_of t n) r.holds.mark), r.a)
target-arm t n take_operation r =
    (numbered t n r.holds.literal, omega (arith, up_to 61 (mark_of t n) r.holds.mark))
target-arm t n take_query r =
    (numbered t n r.holds.literal, omega (arith, up_to 62 (mark_of t n) r.holds.mark))
target-arm t n take_not r =
    (numbered t n r.holds.literal, omega (arith, up_to 62 (mark_of t n) r.holds.mark))
target-arm t n branch_on r =
    (numbered t n r.holds.literal, omega (arith, up_to 63 (mark_of t n) r.holds.mark), r.b, r.c)
target-arm t n assert_on r =
    (numbered t n r.holds.literal, omega (arith, up_to 63 (mark_of t n) r.holds.mark))
target-arm t n store_block r =
    (numbered t n r.holds.literal, omega (arith, up_to 62 (mark_of t n) r.holds.mark))
target-arm t n delete_block r =
    (numbered t n r.holds.literal, omega (arith, up_to 63 (mark_of t n) r.holds.mark))
target-arm t n initialise r =
    (numbered t n r.holds.literal, omega (arith, up_to 63 (mark_of t n) r.holds.mark))
