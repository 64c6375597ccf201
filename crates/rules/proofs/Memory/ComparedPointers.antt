-- Operator 7 on two pointers.
use Prim.Native.Nat.{ℕ, ◌+◌}
use native.Mathlib.Omega.{arith}
use mathlib.Core.Bool.{Bool, true, false, cond, ◌&&◌, false≢true}
use mathlib.Core.Logic.{◌⊎◌, inl, inr, ◌≢◌}
use mathlib.Core.Path.{◌≡◌, refl, sym, ap}
use borrow.Author.Tests.{eqb-true}
use lib.Dec.{eqb, ltb}
use lib.IntN.{ℤ, pos, negsuc}
use Rattle.std.specs.Prelude.{Err, Ok}
use Rattle.rules.specs.Types.{Pointer, Value, Recorded, Miss, Stop}
use Rattle.rules.specs.Nodes.{operator_of}
use Rattle.rules.specs.Numbers.{Liveness, same_integer, same_pointer, truth, truth_value, on_pointers, operate}
use Rattle.rules.specs.Numbers.{on_pointer_and_integer}
use Rattle.rules.specs.Memory.{Memory, recorded_of, is_live, block_of, live_block, located_in, locate}
use Rattle.rules.specs.Observation.{Observation, record_of, live_record, locate_mark}
use Rattle.rules.proofs.Lists.BooleanLaws.{and_split}

-- 02 §4: "Operator 7 with a pointer into a dead block on either side ends 47"
pub operator-7-ends-47 : (live : Liveness) (p q : Pointer) → (live p.name ≡ false) ⊎ (live q.name ≡ false)
    → operate live (operator_of 7) (Value.Pointer p) (Value.Pointer q) ≡ Err Stop.NotLive
unfolding operate on_pointers
operator-7-ends-47 live p q (inl e) = rw e
operator-7-ends-47 live p q (inr e) = rw e (neither (live p.name))
  where
    neither : (b : Bool) → cond (b && false) (truth_value (same_pointer p q)) (Err Stop.NotLive) ≡ Err Stop.NotLive
    neither true = refl
    neither false = refl

-- It gives a value only where both blocks are live: 1 where name and offset are the same, else 0.
pub operator-7-compares-live-blocks : (live : Liveness) (p q : Pointer) (v : Value)
    → operate live (operator_of 7) (Value.Pointer p) (Value.Pointer q) ≡ Ok v
    → (live p.name ≡ true) × (live q.name ≡ true) × (v ≡ truth (same_pointer p q))
unfolding operate on_pointers
operator-7-compares-live-blocks live p q v h = go (live p.name) (live q.name) refl refl h
  where
    go : (a b : Bool) → live p.name ≡ a → live q.name ≡ b
        → cond (a && b) (truth_value (same_pointer p q)) (Err Stop.NotLive) ≡ Ok v
        → (live p.name ≡ true) × (live q.name ≡ true) × (v ≡ truth (same_pointer p q))
    go true true d e h = (d, e, sym cc)
    go true false d e h = let z : ◌≡◌ {A = ℕ} 0 1 = cc in absurd (omega arith)
    go false b d e h = let z : ◌≡◌ {A = ℕ} 0 1 = cc in absurd (omega arith)

-- 02 §4: "The order for one operation becomes 49, 40, 47": a pointer against an integer ends 40, live or not
pub operator-7-asks-the-sorts-first : (live : Liveness) (p : Pointer) (z : ℤ)
    → (operate live (operator_of 7) (Value.Pointer p) (Value.Integer z) ≡ Err Stop.WrongSort)
    × (operate live (operator_of 7) (Value.Integer z) (Value.Pointer p) ≡ Err Stop.WrongSort)
unfolding operate on_pointer_and_integer
operator-7-asks-the-sorts-first live p z = (refl, refl)

same-integer-is : (x y : ℤ) → same_integer x y ≡ true → x ≡ y
same-integer-is (pos x) (pos y) h = ap pos (eqb-true x y h)
same-integer-is (pos x) (negsuc y) h = absurd (false≢true h)
same-integer-is (negsuc x) (pos y) h = absurd (false≢true h)
same-integer-is (negsuc x) (negsuc y) h = ap negsuc (eqb-true x y h)

same-pointer-is : (p q : Pointer) → same_pointer p q ≡ true → p ≡ q
same-pointer-is p q h =
    let h = and_split (eqb p.name q.name) (same_integer p.offset q.offset) h in
    λ i. record { name = eqb-true p.name q.name h.0 i; offset = same-integer-is p.offset q.offset h.1 i }

live-not-dead : (b : Recorded) (o : ℤ) → is_live b ≡ true → located_in b o ≢ (Err Miss.Dead)
live-not-dead Recorded.Unused o h e = absurd (false≢true h)
live-not-dead (Recorded.Live first n) (pos o) h e = go (ltb o n) e
  where
    go : (b : Bool) → cond b (Ok (first + o)) (Err Miss.Outside) ≡ Err Miss.Dead → ⊥
    go true e = let z : ◌≡◌ {A = ℕ} 0 1 = cc in omega arith
    go false e = let z : ◌≡◌ {A = ℕ} 0 1 = cc in omega arith
live-not-dead (Recorded.Live first n) (negsuc o) h e = let z : ◌≡◌ {A = ℕ} 0 1 = cc in omega arith
live-not-dead Recorded.Dead o h e = absurd (false≢true h)

truth-is : (b : Bool) → truth true ≡ truth b → b ≡ true
truth-is true e = refl
truth-is false e = let z : ◌≡◌ {A = ℕ} 0 1 = cc in absurd (omega arith)

-- Pointers that compare equal are the same and lead to the same place, in whichever memory tells by its records which
-- blocks are live.
equal-leads : (records : ℕ → Recorded) (p q : Pointer)
    → operate (λ k. is_live (records k)) (operator_of 7) (Value.Pointer p) (Value.Pointer q) ≡ truth_value true
    → (p ≡ q)
    × (located_in (records p.name) p.offset ≡ located_in (records q.name) q.offset)
    × (located_in (records p.name) p.offset ≢ (Err Miss.Dead))
equal-leads records p q h =
    let live = operator-7-compares-live-blocks (λ k. is_live (records k)) p q (truth true) h in
    let same = same-pointer-is p q (truth-is (same_pointer p q) live.2) in (
      same,
      ap (λ (r : Pointer). located_in (records r.name) r.offset) same,
      live-not-dead (records p.name) p.offset live.0,
    )

-- in the execution memory, whose cells they lead to, and in the observation memory
pub equal-pointers-lead-to-the-same-place : (m : Memory) (p q : Pointer)
    → operate (live_block m) (operator_of 7) (Value.Pointer p) (Value.Pointer q) ≡ truth_value true
    → (p ≡ q) × (locate m p ≡ locate m q) × (locate m p ≢ (Err Miss.Dead))
unfolding locate
equal-pointers-lead-to-the-same-place m p q h = equal-leads (λ k. recorded_of (block_of m k)) p q h

pub equal-pointers-lead-to-the-same-mark : (o : Observation) (p q : Pointer)
    → operate (live_record o) (operator_of 7) (Value.Pointer p) (Value.Pointer q) ≡ truth_value true
    → (p ≡ q) × (locate_mark o p ≡ locate_mark o q) × (locate_mark o p ≢ (Err Miss.Dead))
equal-pointers-lead-to-the-same-mark o p q h = equal-leads (record_of o) p q h
