-- The next name: a new block moves it on by one, an ended one leaves it where it is.
use Prim.Native.Nat.{ℕ, suc, ◌≤◌, ◌<◌}
use native.Mathlib.Omega.{arith}
use native.Mathlib.Nat.{eq-or-lt_of_le}
use mathlib.Core.Path.{◌≡◌, refl, sym, ap, ◌∙◌}
use mathlib.Core.Logic.{⊎_elim}
use mathlib.Core.Bool.{Bool, true, false, cond, true≢false}
use mathlib.Core.List.{List}
use lib.Dec.{ltb}
use borrow.Author.Tests.{ltb-true, ltb-false, lt-ltb, le-ltb}
use Rattle.std.specs.Prelude.{None, Some}
use Rattle.rules.specs.Types.{Search}
use Rattle.rules.specs.declared.{Block.Block, Recorded.Recorded}
use Rattle.rules.specs.Sizes.{name_count}
use Rattle.rules.specs.Checker.{lowest}
use Rattle.rules.specs.Memory.{Memory, recorded_of, named, block_of, is_unused, next_name, free_run, Use, block_for, with_block}
use Rattle.rules.specs.Memory.{without_cells, make_at, make_block, end_block}
use Rattle.rules.proofs.Lists.SearchLaws.{lowest-nothing, lowest-at}
use Rattle.rules.proofs.Runs.Keeping.{AnyNumber, MadeKeeps}
use Rattle.rules.proofs.Memory.MemoryLaws.{named-set_named-other}
use Rattle.rules.proofs.Memory.Invariant.{Invariant, becomes-given}
use Rattle.rules.proofs.Memory.Room.{Room, HasRoom, room}
use Rattle.rules.proofs.Memory.BlockChanges.{onward-make, make-given, end-given}
use Rattle.rules_counting.specs.Counting.{name_from}

pub name-past : (k : ℕ) → name_count < k → None ≡ name_from k
name-past k h = sym (ap (λ (b : Bool). cond b None (Some k)) (lt-ltb name_count k h))

pub name-at : (k : ℕ) → k ≤ name_count → Some k ≡ name_from k
name-at k h = sym (ap (λ (b : Bool). cond b None (Some k)) (le-ltb name_count k h))

-- and back
abbrev place_of : Search → ℕ
place_of (Some i) = i
place_of None = 0

abbrev is_at : Search → Bool
is_at (Some i) = true
is_at None = false

pub name-is : (j k : ℕ) → name_from j ≡ Some k → (j ≡ k) × (j ≤ name_count)
name-is j k e = go (ltb name_count j) refl e
  where
    go : (b : Bool) → ltb name_count j ≡ b → cond b None (Some j) ≡ Some k
        → (j ≡ k) × (j ≤ name_count)
    go true t q = absurd (true≢false (sym (ap is_at q)))
    go false t q = (ap place_of q, ltb-false name_count j t)

-- every name below k is given, and k is not, if it is a name
pub next-is : (m : Memory) (k : ℕ) → 1 ≤ k → k ≤ suc name_count
    → ((j : ℕ) → 1 ≤ j → j < k → is_unused (block_of m j) ≡ false)
    → (k ≤ name_count → is_unused (block_of m k) ≡ true) → next_name m ≡ name_from k
next-is m k from to lower here = go (ltb name_count k) refl
  where
    unused : ℕ → Bool
    unused j = is_unused (block_of m j)

    go : (b : Bool) → ltb name_count k ≡ b → next_name m ≡ cond b None (Some k)
    go true e = lowest-nothing unused 1 name_count (λ j p q. lower j p (omega (arith, ltb-true name_count k e)))
    go false e =
        let h : k ≤ name_count = omega (arith, ltb-false name_count k e) in
        lowest-at unused 1 name_count k from (omega arith) (here h) lower

pub new-next : (m : Memory) (u : Use) (n : ℕ) → Invariant m
    → MadeKeeps (λ k m₁. next_name m₁ ≡ name_from (suc k)) AnyNumber (make_block m u n)
new-next m u n y = go (next_name m) (free_run m n) (room m n)
  where
    above : (k first : ℕ) → Room m n k first → suc k ≤ name_count → (b : Bool) → is_unused (block_of m (suc k)) ≡ b
        → b ≡ true
    above k first h l true e = refl
    above k first h l false e =
        absurd (true≢false
        (sym (ap is_unused h.unused) ∙ y.rising k (suc k) h.from (omega arith) l e))

    go : (r s : Search) → HasRoom m n r s
        → MadeKeeps (λ k m₁. next_name m₁ ≡ name_from (suc k)) AnyNumber (make_at m u n r s)
    go None s h = tt
    go (Some k) None h = tt
    go (Some k) (Some first) h =
        next-is (with_block m u k first n) (suc k) (omega arith) (omega (arith, h.to)) lower here
      where
        lower : (j : ℕ) → 1 ≤ j → j < suc k → is_unused (block_of (with_block m u k first n) j) ≡ false
        lower j p q =
            let l : j ≤ k = omega arith in
            ⊎_elim (λ e. ap (λ (i : ℕ). is_unused (block_of (with_block m u k first n) i)) e ∙ make-given m u n k first h y)
            (λ b. becomes-given (block_of m j) (block_of (with_block m u k first n) j)
            ((onward-make m u n k first h y).becomes j) (h.lower j p b))
            (eq-or-lt_of_le l)

        here : suc k ≤ name_count → is_unused (block_of (with_block m u k first n) (suc k)) ≡ true
        here l =
            ap is_unused
            (named-set_named-other m.blocks k (suc k) (block_for u first n) Block.Dead (λ e. omega (arith, e)))
            ∙ above k first h l (is_unused (block_of m (suc k))) refl

pub end-next : (m : Memory) (k : ℕ) → next_name (end_block m k) ≡ next_name m
end-next m k = ap (λ (p : ℕ → Bool). lowest p 1 name_count) (λ i j. same j (is_unused (block_of m j)) refl i)
  where
    unused-not-live : (b : Block) (a n : ℕ) → is_unused b ≡ true → recorded_of b ≡ Recorded.Live a n → ⊥
    unused-not-live Block.Unused a n t e = let z : ◌≡◌ {A = ℕ} 0 1 = cc in omega arith
    unused-not-live (Block.Fixed first l) a n t e = true≢false (sym t)
    unused-not-live (Block.Freeable first l) a n t e = true≢false (sym t)
    unused-not-live Block.Dead a n t e = true≢false (sym t)

    kept : (j : ℕ) → is_unused (block_of m j) ≡ true → (r : Recorded) → recorded_of (block_of m k) ≡ r
        → block_of (without_cells m k r) j ≡ block_of m j
    kept j t Recorded.Unused e = refl
    kept j t (Recorded.Live first n) e =
        named-set_named-other m.blocks k j Block.Dead Block.Dead
        (λ d. unused-not-live (block_of m k) first n (sym (ap (λ (i : ℕ). is_unused (block_of m i)) d) ∙ t) e)
    kept j t Recorded.Dead e = refl

    same : (j : ℕ) (b : Bool) → is_unused (block_of m j) ≡ b → is_unused (block_of (end_block m k) j) ≡ b
    same j true t = ap is_unused (kept j t (recorded_of (block_of m k)) refl) ∙ t
    same j false t = end-given m k j t

-- where the blocks stay as they are, so does the next name
pub names-decide : (m m₁ : Memory) → m₁.blocks ≡ m.blocks → next_name m₁ ≡ next_name m
names-decide m m₁ e =
    ap (λ (l : List Block). lowest (λ k. is_unused (named l k Block.Dead)) 1 name_count) e
