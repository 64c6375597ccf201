-- What acceptance by the checker says: every rule holds of every record, and only then.
use Prim.Native.Nat.{ℕ, ◌+◌, ◌/◌, ◌%◌, ◌≤◌}
use native.Mathlib.Omega.{arith}
use mathlib.Core.Bool.{Bool, false, not, ◌||◌}
use mathlib.Core.List.{List}
use mathlib.Core.Logic.{◌↔◌}
use mathlib.Core.Path.{◌≡◌, refl, ◌∙◌, subst}
use borrow.Author.Tests.{ltb-false, le-ltb, eqb-true, eqb-false, eq-eqb, ne_eqb, not-false}
use lib.Dec.{eqb}
use lib.ListN.{length}
use Rattle.std.specs.Prelude.{None, Ok, Some}
use Rattle.rules.specs.Types.{Search, Rule}
use Rattle.rules.specs.Records.{record_count}
use Rattle.rules.specs.Kinds.{Language, source, target, record_limit}
use Rattle.rules.specs.Checker.{lowest, lowest_record, record_fault, shape_fault, scope_fault, level_fault, refuse_at}
use Rattle.rules.specs.Checker.{last_rule, check}
use Rattle.rules.proofs.Lists.BooleanLaws.{neither}
use Rattle.rules.proofs.Lists.SearchLaws.{lowest-found}
use Rattle.rules.proofs.Lists.SearchLaws as search-laws
use Rattle.rules.proofs.Acceptance.ParentLaws.{Passed}
use Rattle.rules.proofs.Acceptance.CheckLaws.{none-fails, each-passes, check-kept, accepted-keeps, accepted-last}
-- the lowest that passes is found, and only it; the same of none
pub use Rattle.rules.proofs.Lists.SearchLaws.{NonePass, Lowest}
use Rattle.rules.proofs.Acceptance.SaidLaws.{err-is-not-ok}

pub lowest-at : (p : ℕ → Bool) (j k n : ℕ) → lowest p j k ≡ Some n → Lowest p j k n
lowest-at p j k n e = subst (search-laws.Found p j k) e (lowest-found p j k)

pub at-lowest : (p : ℕ → Bool) (j k n : ℕ) → Lowest p j k n → lowest p j k ≡ Some n
at-lowest p j k n h = search-laws.lowest-at p j k n h.from h.below h.passes h.none-lower

pub lowest-nothing : (p : ℕ → Bool) (j k : ℕ) → lowest p j k ≡ None → NonePass p j (j + k)
lowest-nothing p j k e = subst (search-laws.Found p j k) e (lowest-found p j k)

pub nothing-lowest : (p : ℕ → Bool) (j k : ℕ) → NonePass p j (j + k) → lowest p j k ≡ None
nothing-lowest p j k h = search-laws.lowest-nothing p j k h

-- no record of the table fails the test
abbrev pub NoRecord : List ℕ → (ℕ → Bool) → Type 0
NoRecord t p = (n : ℕ) → 1 ≤ n → n ≤ record_count t → p n ≡ false

-- rule 8 is one of source tables
abbrev pub LevelsHold : Language → List ℕ → Type 0
LevelsHold source t = NoRecord t (level_fault t)
LevelsHold target t = Unit {0}

pub record Accepted (l : Language) (t : List ℕ) : Type 0 where
  pub whole : length t % 16 ≡ 0
  pub not-empty : 1 ≤ record_count t
  pub not-too-many : record_count t ≤ record_limit l
  pub record-rules : (n : ℕ) → 1 ≤ n → n ≤ record_count t → record_fault l t n ≡ Ok tt
  pub shape : NoRecord t (shape_fault l t)
  pub scopes : NoRecord t (scope_fault l t)
  pub levels : LevelsHold l t

refused-nowhere : (rule : Rule) (s : Search) → refuse_at rule s ≡ Ok tt → s ≡ None
refused-nowhere rule (Some n) h = absurd (err-is-not-ok h)
refused-nowhere rule None h = refl

last-holds : (l : Language) (t : List ℕ) → last_rule l t ≡ Ok tt → LevelsHold l t
last-holds source t h = each-passes t (level_fault t) (refused-nowhere Rule.Level (lowest_record t (level_fault t)) h)
last-holds target t h = tt

holds-last : (l : Language) (t : List ℕ) → LevelsHold l t → last_rule l t ≡ Ok tt
holds-last source t h = rw (none-fails t (level_fault t) h)
holds-last target t h = refl

not-empty-of : (n : ℕ) → (eqb n 0 || not (eqb (n % 16) 0)) ≡ false → (n % 16 ≡ 0) × (1 ≤ n / 16)
not-empty-of n h =
    let r = neither (eqb n 0) (not (eqb (n % 16) 0)) h in
    let m : n % 16 ≡ 0 = eqb-true (n % 16) 0 (not-false (eqb (n % 16) 0) r.1) in
    let p : ¬ (n ≡ 0) = eqb-false n 0 r.0 in
    (m, omega arith)

length-passes : (n : ℕ) → n % 16 ≡ 0 → 1 ≤ n / 16 → (eqb n 0 || not (eqb (n % 16) 0)) ≡ false
length-passes n m p = rw (ne_eqb n 0 (λ e. omega arith), eq-eqb (n % 16) 0 m)

pub accepted-says : (l : Language) (t : List ℕ) → check l t ≡ Ok tt → Accepted l t
accepted-says l t h =
    let k = accepted-keeps l t h in
    let s = not-empty-of (length t) k.length-kept in
    record {
      whole = s.0;
      not-empty = s.1;
      not-too-many = ltb-false (record_limit l) (record_count t) k.count_kept;
      record-rules = k.passed.records;
      shape = k.passed.shape;
      scopes = k.scope_kept;
      levels = last-holds l t (accepted-last l t h);
    }

-- rules 3 to 6
pub passed-of : (l : Language) (t : List ℕ) → Accepted l t → Passed l t
passed-of l t a = record { records = a.record-rules; shape = a.shape }

pub says-accepted : (l : Language) (t : List ℕ) → Accepted l t → check l t ≡ Ok tt
says-accepted l t a =
    check-kept l t (record {
      length-kept = length-passes (length t) a.whole a.not-empty;
      count_kept = le-ltb (record_limit l) (record_count t) a.not-too-many;
      passed = passed-of l t a;
      scope_kept = a.scopes;
    })
    ∙ holds-last l t a.levels

pub accepted-exactly : (l : Language) (t : List ℕ) → (check l t ≡ Ok tt) ↔ Accepted l t
accepted-exactly l t = (accepted-says l t, says-accepted l t)
