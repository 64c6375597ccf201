-- The bytes of a tree that keeps the rules hold its records.
use Prim.Native.Nat.{ℕ, suc, ◌+◌, ◌≤◌, ◌<◌}
use native.Mathlib.Omega.{arith}
use native.Mathlib.Nat.{zero-add}
use mathlib.Core.Path.{◌≡◌, ap, ◌∙◌}
use mathlib.Core.List.{List, ◌++◌}
use Rattle.rules.specs.Records.{Record, record_count, record_at, table_bytes}
use Rattle.rules.specs.Kinds.{Language}
use Rattle.rules.specs.Emission.{RecordTree, none, node, tree_size, field_c, emit}
use Rattle.rules.proofs.Acceptance.Sound.{Scope}
use Rattle.rules.proofs.Translation.RecordBytes.{AllBytes, bytes-table, AllFit, all_append, table-record}
use Rattle.rules.proofs.Translation.RecordBytes.{table-count}
use Rattle.rules.proofs.Translation.EmissionLaws.{length-emit, root-most, emit-holds}
use Rattle.rules.proofs.Translation.FittingTrees.{Fitting, scope_below, Held}

field-small : (w : RecordTree) (x n : ℕ) → x < 65536 → n + tree_size w < 65536 → field_c w x n < 65536
field-small none x n h l = h
field-small (node k m z y a b c) x n h l = l

pub emit-fits : (l : Language) (w : RecordTree) (n : ℕ) (ρ : Scope) → Fitting l w ρ → n + tree_size w < 65536
    → AllFit (emit w n)
unfolding emit
emit-fits l none n ρ h s = tt
emit-fits l (node k m z x a b c) n ρ h s =
    let ea : List Record = emit a n in
    let eb : List Record = emit b (n + tree_size a) in
    let ec : List Record = emit c (n + tree_size a + tree_size b) in
    let σ : Scope = scope_below k m ρ in
    all_append (ea ++ eb ++ ec) _
    (all_append (ea ++ eb) ec
    (all_append ea eb (emit-fits l a n σ h.1 (omega arith))
    (emit-fits l b (n + tree_size a) σ h.2 (omega arith)))
    (emit-fits l c (n + tree_size a + tree_size b) σ h.3 (omega arith))) (
      record {
        kind_fits = h.0.small.0;
        mark-fits = h.0.small.1;
        a-fits = omega (arith, root-most a n);
        b-fits = omega (arith, root-most b (n + tree_size a));
        c-fits = field-small c x (n + tree_size a + tree_size b) h.0.small.2 (omega arith);
        literal-fits = h.0.in-range;
      },
      tt,
    )

pub emitted-count : (w : RecordTree) → record_count (table_bytes (emit w 0)) ≡ tree_size w
emitted-count w = table-count (emit w 0) ∙ length-emit w 0

pub emitted : (l : Language) (w : RecordTree) (ρ : Scope) → Fitting l w ρ → tree_size w ≤ 4096
    → Held l (table_bytes (emit w 0)) w 0
emitted l w ρ h s = record {
  records = emit-holds (record_at (table_bytes (emit w 0))) w 0
      (λ i p. ap (λ (j : ℕ). record_at (table_bytes (emit w 0)) (suc j)) (zero-add i)
      ∙ table-record (emit w 0) i (emit-fits l w 0 ρ h (omega arith)) p);
  in_scope_at_root = ρ;
  fitting = h;
}

pub emitted-bytes : (l : Language) (w : RecordTree) (ρ : Scope) → Fitting l w ρ → tree_size w ≤ 4096
    → AllBytes (table_bytes (emit w 0))
emitted-bytes l w ρ h s = bytes-table (emit w 0) (emit-fits l w 0 ρ h (omega arith))
