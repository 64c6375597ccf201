-- What a change answers, by the parts of the statement that makes it.
use Prim.Native.Nat.{ℕ, zero, suc}
use native.Mathlib.Omega.{arith}
use mathlib.Core.Bool.{true, false, false≢true}
use mathlib.Core.List.{List}
use mathlib.Core.Path.{◌≡◌, refl, sym, ap, ◌∙◌, subst}
use borrow.Author.Tests.{leb-true}
use lib.Dec.{T}
use lib.IntN.{ℤ, pos, negsuc, nat_abs}
use lib.Signed.{lt_z, non_neg}
use Rattle.rules.specs.Memory.{Memory, Change, stopped, Made, made, unmade, fixed, freeable, make_block}
use Rattle.rules.specs.Memory.{store_cell, store_new, new_of_size}
use Rattle.rules.specs.Layout.{memory_of}
use Rattle.rules.specs.declared.{Pointer.Pointer, Value.Value}
use Rattle.rules.proofs.Memory.Invariant.{Invariant}
use Rattle.memory_cells.specs.Changes.{Becomes}
use Rattle.memory_blocks.specs.Blocks.{making_of, made_memory}
use Rattle.memory_freeing.specs.LetBlocks.{LetBlock}
use Rattle.memory_freeing.proofs.LetBlockLaws.{let-made}
use Rattle.run_changes.specs.Changing.{Does}
use Rattle.rules.specs.declared.{Stop.Stop}
use Rattle.std.specs.Prelude.{Result, Ok, Err, is_ok}

-- ---- changes of the bytes, one after the other
pub becomes-same : {l : List ℕ} {m : Memory} → memory_of l ≡ m → Becomes l l m
becomes-same e = record { view = e; exact = λ x. x }

pub becomes-is : {a b : List ℕ} {m m₁ : Memory} → m ≡ m₁ → Becomes a b m → Becomes a b m₁
becomes-is e h = record { view = h.view ∙ e; exact = h.exact }

pub becomes-then : {a b c : List ℕ} {m m₁ : Memory} → Becomes a b m → Becomes b c m₁ → Becomes a c m₁
becomes-then p q = record { view = q.view; exact = λ x. q.exact (p.exact x) }

-- ---- what a change does
pub does-is : {x y : Change Memory} {r : Result Unit Stop} {a b : List ℕ} → x ≡ y → Does y r a b → Does x r a b
does-is {x} {y} {r} {a} {b} e h = subst (λ (z : Change Memory). Does z r a b) (sym e) h

pub does-then : {x : Change Memory} {r : Result Unit Stop} {m : Memory} {a b c : List ℕ} → Becomes a b m → Does x r b c → Does x r a c
does-then p h = record { result = h.result; memory = becomes-then p h.memory }

pub does-stop : (c : Stop) (l : List ℕ) → Does (stopped c (memory_of l)) (Err c) l l
does-stop c l = record { result = refl; memory = becomes-same refl }

-- ---- a new block
abbrev pointer_to : ℕ → Value
pointer_to k = Value.Pointer (record { name = k; offset = pos 0 })

name_or : ℕ → Result ℕ Stop → ℕ
name_or d (Ok k) = k
name_or d (Err c) = d

stop_or : Stop → Result ℕ Stop → Stop
stop_or d (Ok k) = d
stop_or d (Err c) = c

-- what it answers tells how it went
pub made_by : (x : Made Memory) (k : ℕ) (m : Memory) → Ok k ≡ making_of x → x ≡ made k (made_memory m x)
unfolding name_or
made_by (made j m₁) k m e = ap (λ (i : ℕ). made i m₁) (sym (ap (name_or k) e))
made_by (unmade c) k m e = absurd (false≢true (sym (ap is_ok e)))

pub unmade-by : (x : Made Memory) (c : Stop) → Err c ≡ making_of x → x ≡ unmade c
unfolding stop_or
unmade-by (made j m₁) c e = absurd (false≢true (ap is_ok e))
unmade-by (unmade d) c e = ap unmade (sym (ap (stop_or c) e))

-- the block that a let makes
pub let-block : {l l₁ : List ℕ} {k : ℕ} → Invariant (memory_of l)
    → Becomes l l₁ (made_memory (memory_of l) (make_block (memory_of l) fixed 1))
    → Ok k ≡ making_of (make_block (memory_of l) fixed 1) → LetBlock (memory_of l₁) k
let-block {l} {l₁} {k} v w e =
    subst (λ (m : Memory). LetBlock m k) (sym w.view)
    (let-made (memory_of l) k _ v (made_by (make_block (memory_of l) fixed 1) k (memory_of l) e))

module _ (p : Pointer) (x : Made Memory) (l l₁ : List ℕ) (w : Becomes l l₁ (made_memory (memory_of l) x)) where
  pub does-new : (k : ℕ) (r : Result Unit Stop) (l₂ : List ℕ) → Ok k ≡ making_of x
      → Does (store_cell (memory_of l₁) p (pointer_to k)) r l₁ l₂ → Does (store_new (memory_of l) p x) r l l₂
  does-new k r l₂ e h =
      does-is
      (ap (store_new (memory_of l) p) (made_by x k (memory_of l) e)
      ∙ ap (λ (m : Memory). store_cell m p (pointer_to k)) (sym w.view))
      (does-then w h)

  pub does-unmade : (c : Stop) → Err c ≡ making_of x → Does (store_new (memory_of l) p x) (Err c) l l₁
  does-unmade c e =
      let u = unmade-by x c e in
      does-is (ap (store_new (memory_of l) p) u)
      (record { result = refl; memory = becomes-is (ap (made_memory (memory_of l)) u) w })

-- a size below 1, and one from 1 on
pub size_below : (m : Memory) (p : Pointer) (z : ℤ) → lt_z z (pos 1) ≡ true → new_of_size m p z ≡ stopped Stop.SizeBelowOne m
size_below m p (pos zero) h = refl
size_below m p (pos (suc n)) h = absurd (omega (arith, leb-true (suc (suc n)) 1 h))
size_below m p (negsuc n) h = refl

pub size-from-one : (m : Memory) (p : Pointer) (z : ℤ) → lt_z z (pos 1) ≡ false
    → new_of_size m p z ≡ store_new m p (make_block m freeable (nat_abs z))
size-from-one m p (pos zero) h = absurd (false≢true (sym h))
size-from-one m p (pos (suc n)) h = refl
size-from-one m p (negsuc n) h = absurd (false≢true (sym h))

pub size-natural : (z : ℤ) → lt_z z (pos 1) ≡ false → T (non_neg z)
size-natural (pos n) h = tt
size-natural (negsuc n) h = absurd (false≢true (sym h))
