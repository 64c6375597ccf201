-- What is noted of a record going down is its scope, or its level.
use Prim.Native.Nat.{ℕ, zero, suc, ◌*◌, ◌<◌, ◌≤◌}
use native.Mathlib.Omega.{arith}
use mathlib.Core.Bool.{Bool, true, false, not, ◌&&◌, ◌||◌}
use mathlib.Core.List.{List}
use mathlib.Core.Option.{some}
use mathlib.Core.Path.{◌≡◌, refl, sym, ap, ◌∙◌}
use borrow.Author.Tests.{leb-true, eqb-true}
use lib.Dec.{eqb, leb, eqb-suc-zero}
use Rattle.rules.specs.Records.{fields_of, record_count, kind_of, mark_of, record_at}
use Rattle.rules.specs.Kinds.{Language, source, target, Field, up_to, Form, look_up, form_of}
use Rattle.rules.specs.Checker.{field_fits, fields_fit, children_fit, fault_of, record_fault, parent_of}
use Rattle.rules.specs.Checker.{is_let_of, in_scope, mark_in_scope, scope_fault, level_below, position_in, level_of}
use Rattle.rules.specs.Checker.{level_fault}
use Rattle.rules.specs.Types.{Search}
use Rattle.rules.proofs.Acceptance.KindViews.{form_at}
use Rattle.rules.proofs.Acceptance.ParentLaws.{Passed, IsParent, two-pass}
use Rattle.rules.proofs.Acceptance.SaidLaws.{faults}
use Rattle.rules.proofs.Acceptance.FormLaws.{fields_split}
use Rattle.rules.proofs.Acceptance.ScopeLaws.{scope-child, scope-last, level-child, level-last}
use Rattle.checker.specs.Scopes.{bit, out_of_scope, too_deep, child_level}
use Rattle.checker.proofs.LevelLaws.{below-most, position-most}
use Rattle.std.specs.Prelude.{None, Some}
use Rattle.std.specs.Prelude.{Ok}

-- ---- the marks of 10 and 47 are variables
four-less : (p q : Bool) → faults p q ≡ Ok tt → p ≡ true
four-less true q e = refl
four-less false q e = cc

mark-of : (l : Language) (t : List ℕ) (n : ℕ) (f : Form) → form_of l (kind_of t n) ≡ some f → f.mark ≡ up_to 63
    → record_fault l t n ≡ Ok tt → mark_of t n < 64
unfolding record_fault
mark-of l t n f e m h =
    let fit : fields_fit f (record_at t n) ≡ true =
    four-less (fields_fit f (record_at t n)) (children_fit l t n f (record_at t n)) (sym (ap (fault_of l t n) e) ∙ h) in
    let p = fields_split f (record_at t n) fit in
    let range : (leb 0 (mark_of t n) && leb (mark_of t n) 63) ≡ true =
    sym (ap (λ (g : Field). field_fits g (mark_of t n)) m) ∙ p.0 in
    omega (arith, leb-true (mark_of t n) 63 (two-pass (leb 0 (mark_of t n)) (leb (mark_of t n) 63) range).1)

use-form : (l : Language) → form_of l 10 ≡ some (form_at l 10)
unfolding form_of look_up
use-form source = refl
use-form target = refl

let-form : (l : Language) → form_of l 47 ≡ some (form_at l 47)
unfolding form_of look_up
let-form source = refl
let-form target = refl

use-mark : (l : Language) → ((form_at l 10).mark ≡ up_to 63) × ((form_at l 47).mark ≡ up_to 63)
use-mark source = (refl, refl)
use-mark target = (refl, refl)

pub mark-used : (l : Language) (t : List ℕ) (n : ℕ) → record_fault l t n ≡ Ok tt → kind_of t n ≡ 10 → mark_of t n < 64
mark-used l t n h e = mark-of l t n (form_at l 10) (ap (form_of l) e ∙ use-form l) (use-mark l).0 h

pub mark-let : (l : Language) (t : List ℕ) (n : ℕ) → record_fault l t n ≡ Ok tt → kind_of t n ≡ 47 → mark_of t n < 64
mark-let l t n h e = mark-of l t n (form_at l 47) (ap (form_of l) e ∙ let-form l) (use-mark l).1 h

-- ---- scopes
abbrev pub Scoped : Language → List ℕ → ℕ → ℕ → Type 0
Scoped l t j s = (x : ℕ) → x < 64 → bit s x ≡ in_scope l t (record_count t) x j

bit-none : (y : ℕ) → bit 0 y ≡ false
unfolding bit
bit-none zero = refl
bit-none (suc y) = bit-none y

bit-one : (x : ℕ) → bit 1 x ≡ eqb x 0
unfolding bit
bit-one zero = refl
bit-one (suc x) = bit-none x ∙ sym (eqb-suc-zero x)

pub scoped-last : (l : Language) (t : List ℕ) → Passed l t → (s : ℕ) → s ≡ 1 → Scoped l t (record_count t) s
scoped-last l t keeps s e x h = ap (λ (n : ℕ). bit n x) e ∙ bit-one x ∙ sym (scope-last l t keeps x)

pub scoped-child : (l : Language) (t : List ℕ) → Passed l t → (n j s r : ℕ) → IsParent l t n j → Scoped l t n s
    → ((y : ℕ) → bit r y ≡ ((eqb (kind_of t n) 47 && eqb (mark_of t n) y) || bit s y)) → Scoped l t j r
scoped-child l t keeps n j s r p h below x q =
    below x ∙ ap (λ (b : Bool). is_let_of t n x || b) (h x q) ∙ sym (scope-child l t keeps n j x p)

abbrev pick : Bool → Bool → Bool → Bool
pick p q b = elim p [ true ↦ not b | false ↦ elim q [ true ↦ b | false ↦ false ] ]

same-pick : (p q b c : Bool) → (p ≡ true → b ≡ c) → (q ≡ true → b ≡ c) → pick p q b ≡ pick p q c
same-pick true q b c h k = ap not (h refl)
same-pick false true b c h k = k refl
same-pick false false b c h k = refl

pub scoped-fault : (l : Language) (t : List ℕ) (n s : ℕ) → record_fault l t n ≡ Ok tt → Scoped l t n s
    → out_of_scope (kind_of t n) (mark_of t n) s ≡ scope_fault l t n
unfolding scope_fault
scoped-fault l t n s e h =
    same-pick (eqb (kind_of t n) 10) (eqb (kind_of t n) 47) (bit s (mark_of t n)) (mark_in_scope l t n)
    (λ k. h (mark_of t n) (mark-used l t n e (eqb-true (kind_of t n) 10 k)))
    (λ k. h (mark_of t n) (mark-let l t n e (eqb-true (kind_of t n) 47 k)))

-- ---- levels
abbrev pub Levelled : List ℕ → ℕ → ℕ → Type 0
Levelled t j v = v ≡ level_of t (record_count t) j

pub level-most : (t : List ℕ) (d n : ℕ) → level_of t d n ≤ 4 * d
unfolding level_of
level-most t zero n = omega arith
level-most t (suc d) n = go (parent_of source t n) (λ m. level-most t d m)
  where
    go : (s : Search) → ((m : ℕ) → level_of t d m ≤ 4 * d)
        → elim s as (λ q. ℕ) [
          | Some m ↦ level_below (kind_of t m) (position_in (fields_of (record_at t m)) n) (level_of t d m)
          | None ↦ 0
        ] ≤ 4 * suc d
    go None f = omega arith
    go (Some m) f =
        let i = position_in (fields_of (record_at t m)) n in
        omega (
          arith,
          f m,
          below-most (kind_of t m) i (level_of t d m),
          position-most (fields_of (record_at t m)) n,
        )

pub levelled-last : (t : List ℕ) → Passed source t → (v : ℕ) → v ≡ 0 → Levelled t (record_count t) v
levelled-last t keeps v e = e ∙ sym (level-last t keeps)

pub levelled-child : (t : List ℕ) → Passed source t → (n j v : ℕ) → IsParent source t n j → Levelled t n v
    → Levelled t j (child_level t n v j)
levelled-child t keeps n j v p h =
    ap (level_below (kind_of t n) (position_in (fields_of (record_at t n)) j)) h ∙ sym (level-child t keeps n j p)

pub levelled-fault : (t : List ℕ) (n v : ℕ) → Levelled t n v → too_deep (kind_of t n) v ≡ level_fault t n
unfolding level_fault
levelled-fault t n v h = ap (too_deep (kind_of t n)) h
