-- The pass for rules 6 and 7, record by record: what is known after the records above n.
use Rattle.rules.specs.Kinds.{Language}
use Prim.Native.Nat.{ℕ, ◌-◌, ◌%◌, ◌<◌, ◌≤◌}
use native.Mathlib.Omega.{arith}
use mathlib.Core.Bool.{Bool, false, cond, ◌&&◌, ◌||◌}
use mathlib.Core.List.{List}
use mathlib.Core.Path.{◌≡◌, ap, ◌∙◌}
use borrow.Author.Tests.{eqb-false}
use lib.Dec.{eqb}
use lib.ListN.{get_or, set}
use Rattle.rules.specs.Records.{record_count, kind_of, mark_of}
use Rattle.std.specs.Prelude.{None, Some}
use Rattle.rules.specs.Types.{Search}
use Rattle.rules.specs.Checker.{shape_fault, scope_fault}
use Rattle.checker.specs.Scopes.{bit, out_of_scope, Noted, Formed, Kept, Ready}
use Rattle.checker.proofs.DescentLaws.{no-fault, passed-of, Known, known_start, known-here, known-down}
use Rattle.checker.proofs.TallyLaws.{Tallied, tallied-start, tallied-here, tallied-down, given-noted}
use Rattle.checker.proofs.RightLaws.{Scoped, scoped-last, scoped-child, scoped-fault}
use Rattle.checker.proofs.Lowest.{Lowest, lowest_start, lowest-down}

-- scopes are right where no record is misshapen
pub record Passing (l : Language) (t : List ℕ) (notes : List ℕ) (misshapen hidden : Search) (n : ℕ) : Type 0 where
  pub within : n ≤ record_count t
  pub tallied : Tallied l t n notes
  pub known : Kept l t → Known (Scoped l t) l t n notes
  pub shapes : Lowest (shape_fault l t) (record_count t) n misshapen
  pub scopes : Kept l t → Lowest (scope_fault l t) (record_count t) n hidden

pub passing-start : (l : Language) (t notes : List ℕ) (v : ℕ) → Ready l t notes
    → v ≡ cond (shape_fault l t (record_count t)) 0 1
    → Passing l t (set notes (record_count t) v) None None (record_count t)
passing-start l t notes v h e =
    let tallied = tallied-start l t notes v h e in
    record {
      within = omega arith;
      tallied = tallied;
      known = λ kept.
          let keeps = passed-of l t kept in
          known_start (Scoped l t) l t (set notes (record_count t) v) tallied.size
          (scoped-last l t keeps (get_or (set notes (record_count t) v) (record_count t) 0)
          (tallied.last ∙ ap (λ (b : Bool). cond {A = ℕ} b 0 1)
          (keeps.shape (record_count t) h.formed.sized.some (omega arith))));
      shapes = lowest_start (shape_fault l t) (record_count t);
      scopes = λ kept. lowest_start (scope_fault l t) (record_count t);
    }

odd-of-even : (v : ℕ) → eqb (v % 2) 0 ≡ false → v % 2 ≡ 1
odd-of-even v e = omega (arith, eqb-false (v % 2) 0 e)

-- record n: its own faults, and scope s below it noted of its children
pub passing-down : (l : Language) (t : List ℕ) → Formed l t → (notes notes' : List ℕ) (misshapen misshapen' : Search)
    (hidden hidden' : Search) (n s : ℕ) (out : Bool) → 0 < n → Passing l t notes misshapen hidden n
    → misshapen' ≡ cond (eqb (get_or notes n 0 % 2) 0) (Some n) misshapen
    → out ≡ out_of_scope (kind_of t n) (mark_of t n) (get_or notes n 0) → hidden' ≡ cond out (Some n) hidden → s % 2 ≡ 1
    → (get_or notes n 0 % 2 ≡ 1
    → (y : ℕ) → bit s y ≡ ((eqb (kind_of t n) 47 && eqb (mark_of t n) y) || bit (get_or notes n 0) y))
    → Noted l t n s notes notes' → Passing l t notes' misshapen' hidden' (n - 1)
passing-down l t formed notes notes' misshapen misshapen' hidden hidden' n s out a h em eo eh odd below g =
    let scope = get_or notes n 0 in
    let shape = tallied-here l t formed n notes a h.within h.tallied in
    let here : Kept l t → Scoped l t n scope =
    λ kept. known-here (Scoped l t) l t (passed-of l t kept) n notes a h.within (h.known kept) in
    record {
      within = omega (arith, h.within);
      tallied = tallied-down l t formed n s notes notes' a h.within odd g h.tallied;
      known = λ kept.
          let keeps = passed-of l t kept in
          let own : scope % 2 ≡ 1 = odd-of-even scope (shape ∙ keeps.shape n a h.within) in
          known-down (Scoped l t) l t keeps n (λ j. s) notes notes' a h.within
          (given-noted l t formed keeps n s notes notes' a h.within g h.tallied)
          (λ j p. scoped-child l t keeps n j scope s p (here kept) (below own)) (h.known kept);
      shapes = lowest-down (shape_fault l t) (record_count t) n misshapen misshapen' (eqb (scope % 2) 0) a h.within
          shape em h.shapes;
      scopes = λ kept.
          lowest-down (scope_fault l t) (record_count t) n hidden hidden' out a h.within
          (eo ∙ scoped-fault l t n scope (no-fault l t formed n a h.within) (here kept)) eh (h.scopes kept);
    }
