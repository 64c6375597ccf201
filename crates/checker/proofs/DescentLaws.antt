-- From the last record down: what is noted of a record is right once its parent has been passed.
use Rattle.rules.specs.Kinds.{Language}
use Prim.Native.Nat.{ℕ, ◌-◌, ◌<◌, ◌≤◌}
use native.Mathlib.Omega.{arith}
use native.Mathlib.Decide.{dec_lt}
use mathlib.Core.Bool.{Bool, cond}
use mathlib.Core.List.{List}
use mathlib.Core.Path.{◌≡◌, sym, ap, subst, ◌∙◌}
use borrow.Author.Tests.{lt-ltb, le-ltb}
use lib.Dec.{ltb}
use lib.ListN.{length, get_or}
use Rattle.rules.specs.Records.{record_count}
use Rattle.rules.specs.Checker.{record_fault, shape_fault, times_child_of}
use Rattle.rules.proofs.Acceptance.ParentLaws.{Passed, IsParent, parent_above, has-parent, child-once, times-both}
use Rattle.rules.proofs.Acceptance.SaidLaws.{no-err-kept}
use Rattle.rules.proofs.Acceptance.CheckLaws.{each-passes}
use Rattle.checker.specs.Scopes.{Given, Formed, Kept}
use Rattle.std.specs.Prelude.{Ok, is_err}

pub no-fault : (l : Language) (t : List ℕ) → Formed l t → (n : ℕ) → 1 ≤ n → n ≤ record_count t
    → record_fault l t n ≡ Ok tt
no-fault l t h n a b =
    no-err-kept (record_fault l t n) (each-passes t (λ n. is_err (record_fault l t n)) h.records n a b)

pub passed-of : (l : Language) (t : List ℕ) → Kept l t → Passed l t
passed-of l t h = record {
  records = no-fault l t h.formed;
  shape = each-passes t (shape_fault l t) h.shapes;
}

-- P of the last record, and of the children of the records above n
pub record Known (P : ℕ → ℕ → Type 0) (l : Language) (t : List ℕ) (n : ℕ) (notes : List ℕ) : Type 0 where
  pub size : record_count t < length notes
  pub last : P (record_count t) (get_or notes (record_count t) 0)
  pub below : (m j : ℕ) → IsParent l t m j → n < m → P j (get_or notes j 0)

module _ (P : ℕ → ℕ → Type 0) (l : Language) (t : List ℕ) where
  pub known_start : (notes : List ℕ) → record_count t < length notes
      → P (record_count t) (get_or notes (record_count t) 0)
      → Known P l t (record_count t) notes
  known_start notes s p = record {
    size = s;
    last = p;
    below = λ m j h q. absurd (omega (arith, h.in_table));
  }

  pub known-here : Passed l t → (n : ℕ) (notes : List ℕ) → 0 < n → n ≤ record_count t → Known P l t n notes
      → P n (get_or notes n 0)
  known-here keeps n notes a b h = go (dec_lt n (record_count t))
    where
      go : Dec (n < record_count t) → P n (get_or notes n 0)
      go (yes q) =
          let above = has-parent l t keeps n a q in
          h.below above.number n above.is-parent (parent_above l t keeps above.number n above.is-parent).1
      go (no q) =
          let same : record_count t ≡ n = omega arith in
          subst (λ (k : ℕ). P k (get_or notes k 0)) same h.last

  pub known-down : Passed l t → (n : ℕ) (f : ℕ → ℕ) (notes notes' : List ℕ) → 0 < n
      → n ≤ record_count t → Given l t n f notes notes' → ((j : ℕ) → IsParent l t n j → P j (f j))
      → Known P l t n notes → Known P l t (n - 1) notes'
  known-down keeps n f notes notes' a b g c h = record {
    size = omega (arith, g.size, h.size);
    last = at (record_count t) h.size (λ e. h.last);
    below = λ m j k q.
        at j (omega (arith, parent_above l t keeps m j k, k.in_table, h.size))
        (λ e. go m j k q e (dec_lt n m));
  }
    where
      at : (j : ℕ) → j < length notes → (times_child_of l t n j ≡ 0 → P j (get_or notes j 0)) → P j (get_or notes' j 0)
      at j q base = subst (P j) (sym (g.values j q)) (pick (dec_lt 0 (times_child_of l t n j)))
        where
          pick : Dec (0 < times_child_of l t n j) → P j (cond (ltb 0 (times_child_of l t n j)) (f j) (get_or notes j 0))
          pick (yes p) =
              subst (λ (b : Bool). P j (cond b (f j) (get_or notes j 0))) (sym (lt-ltb 0 (times_child_of l t n j) p))
              (c j (record { in_table = (a, b); has-child = p }))
          pick (no p) =
              subst (λ (b : Bool). P j (cond b (f j) (get_or notes j 0)))
              (sym (le-ltb 0 (times_child_of l t n j) (omega arith))) (base (omega arith))

      go : (m j : ℕ) → IsParent l t m j → n - 1 < m → times_child_of l t n j ≡ 0 → Dec (n < m) → P j (get_or notes j 0)
      go m j k q e (yes p) = h.below m j k p
      go m j k q e (no p) =
          let same : m ≡ n = omega arith in
          absurd (omega (arith, e, subst (λ (i : ℕ). 0 < times_child_of l t i j) same k.has-child))

-- nothing is put yet for a child of the records up to n
abbrev pub Fresh : Language → List ℕ → ℕ → List ℕ → Type 0
Fresh l t n notes = (m j : ℕ) → IsParent l t m j → m ≤ n → get_or notes j 0 ≡ 0

pub fresh-down : (l : Language) (t : List ℕ) → Passed l t → (n : ℕ) (f : ℕ → ℕ) (notes notes' : List ℕ) → 0 < n
    → n ≤ record_count t → record_count t < length notes → Given l t n f notes notes' → Fresh l t n notes
    → Fresh l t (n - 1) notes'
fresh-down l t keeps n f notes notes' a b size g h m j p q =
    let below = parent_above l t keeps m j p in
    let once = child-once l t keeps j below.0 (omega (arith, below, p.in_table)) in
    let both = times-both l t j m n (record_count t) p.in_table.0 (omega arith) b in
    let other : times_child_of l t n j ≤ 0 = omega (arith, both, once, p.has-child) in
    g.values j (omega (arith, below, p.in_table, size))
    ∙ ap (λ (x : Bool). cond x (f j) (get_or notes j 0)) (le-ltb 0 (times_child_of l t n j) other)
    ∙ h m j p (omega arith)
