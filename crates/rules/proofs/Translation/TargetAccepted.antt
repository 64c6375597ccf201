-- The bytes of an emitted tree keep rules 1 to 7, and so those of a target tree are accepted.
use Prim.Native.Nat.{ℕ, ◌%◌, ◌≤◌, ◌<◌}
use native.Mathlib.Omega.{arith}
use mathlib.Core.Path.{◌≡◌}
use mathlib.Core.Bool.{true, false, not, ◌||◌}
use mathlib.Core.List.{List}
use lib.Dec.{eqb}
use lib.ListN.{length}
use borrow.Author.Tests.{eq-eqb, ne_eqb, le-ltb}
use Rattle.std.specs.Prelude.{Ok}
use Rattle.rules.specs.Records.{Record, record_count, table_bytes}
use Rattle.rules.specs.Kinds.{Language, source, target, statement, sort_number, record_limit}
use Rattle.rules.specs.Checker.{sort_of, length_fault, check}
use Rattle.rules.specs.TargetTrees.{TargetStatement}
use Rattle.rules.specs.Emission.{RecordTree, none, node, statement_tree, tree_size, emit}
use Rattle.rules.proofs.Acceptance.Sound.{start_scope, SoundTarget}
use Rattle.rules.proofs.Translation.RecordBytes.{table-length}
use Rattle.rules.proofs.Translation.EmissionLaws.{length-emit}
use Rattle.rules.proofs.Translation.FittingTrees.{root_kind, Fitting, no-sort, Held}
use Rattle.rules.proofs.Translation.TargetFitting.{statement-sort, statement-fits}
use Rattle.rules.proofs.Translation.EmittedBytes.{emitted, emitted-count}
use Rattle.rules.proofs.Acceptance.ParentLaws.{Passed}
use Rattle.rules.proofs.Translation.ShapeLaws.{passed}
use Rattle.rules.proofs.Translation.ScopeKept.{scope_kept}
use Rattle.rules.proofs.Acceptance.CheckLaws.{Keeps, check-kept}

-- 1: whole records, and at least one
pub whole-records : (rs : List Record) → 0 < length rs → length_fault (table_bytes rs) ≡ false
whole-records rs h =
    (λ i. some_bytes i || not (sixteens i))
  where
    some_bytes : eqb (length (table_bytes rs)) 0 ≡ false
    some_bytes = ne_eqb (length (table_bytes rs)) 0 (omega (arith, table-length rs))

    sixteens : eqb (length (table_bytes rs) % 16) 0 ≡ true
    sixteens = eq-eqb (length (table_bytes rs) % 16) 0 (omega (arith, table-length rs))

-- a tree of some sort has a record
some-record : (l : Language) (w : RecordTree) → sort_of l (root_kind w) ≡ sort_number statement → 0 < tree_size w
some-record l none h = absurd (no-sort l statement h)
some-record l (node k m z x a b c) h = omega arith

at_most : (l : Language) → record_limit l ≤ 4096
at_most source = omega arith
at_most target = omega arith

-- in either language
pub tree-keeps : (l : Language) (w : RecordTree) → Fitting l w start_scope
    → sort_of l (root_kind w) ≡ sort_number statement → tree_size w ≤ record_limit l → Keeps l (table_bytes (emit w 0))
tree-keeps l w fitting sort s =
    let t : List ℕ = table_bytes (emit w 0) in
    let count : record_count t ≡ tree_size w = emitted-count w in
    let held : Held l t w 0 = emitted l w start_scope fitting (omega (arith, at_most l)) in
    let kept : Passed l t = passed l t w count held sort in
    record {
      length-kept = whole-records (emit w 0) (omega (arith, length-emit w 0, some-record l w sort));
      count_kept = le-ltb (record_limit l) (record_count t) (omega arith);
      passed = kept;
      scope_kept = scope_kept l t w kept count held.records fitting;
    }

pub keeps-rules : (w : TargetStatement) → SoundTarget w start_scope → tree_size (statement_tree w) ≤ 4096
    → Keeps target (table_bytes (emit (statement_tree w) 0))
keeps-rules w h s = tree-keeps target (statement_tree w) (statement-fits w start_scope h) (statement-sort w) s

pub target-accepted : (w : TargetStatement) → SoundTarget w start_scope → tree_size (statement_tree w) ≤ 4096
    → check target (table_bytes (emit (statement_tree w) 0)) ≡ Ok tt
target-accepted w h s = check-kept target (table_bytes (emit (statement_tree w) 0)) (keeps-rules w h s)
