-- The records that come from each record of an accepted source table are all those of its translation, and so this has
-- at most 14 for each.
use Prim.Native.Nat.{ℕ, ◌+◌, ◌*◌, ◌≤◌}
use native.Mathlib.Omega.{arith}
use mathlib.Core.Bool.{cond}
use mathlib.Core.List.{List, [], ◌∷◌}
use mathlib.Core.Path.{◌≡◌, refl, sym, ap, ◌∙◌}
use lib.Dec.{eqb}
use lib.IntN.{pos}
use Rattle.std.specs.Prelude.{Ok}
use Rattle.rules.specs.Words.{little, digits, word_at, flat}
use Rattle.rules.specs.Records.{record_count, kind_of, child_a, child_b, child_c, table_bytes}
use Rattle.rules.specs.Kinds.{source, statement, look_up, form_of}
use Rattle.rules.specs.Checker.{lowest, record_fault, times_child_of, times_child, shape_fault, parent_of, in_scope}
use Rattle.rules.specs.Checker.{scope_fault, level_of, level_fault, check}
use Rattle.rules.specs.Nodes.{source_program, node_at}
use Rattle.rules.specs.Emission.{statement_tree, tree_size}
use Rattle.rules.specs.Translation.{translate}
use Rattle.rules.specs.Origins.{own_records, copies_of_child, copies_in, copies_of, target_records, sum}
use Rattle.rules.specs.Cases.{of, of_all}
use Rattle.rules.proofs.Acceptance.Acceptance.{Accepted, accepted-says, passed-of}
use Rattle.rules.proofs.Acceptance.AcceptedTrees.{accepted-record, accepted-last}
use Rattle.rules.proofs.Acceptance.ScopeLaws.{copies-last}
use Rattle.rules.proofs.Translation.Counting.{sum-equal, sum-plus, sum-child, sum-most, count-all}
use Rattle.rules.specs.RecordTrees.{tree_at}
use Rattle.rules.proofs.Translation.RecordSizes.{none-at, tree-as, size-law}
use Rattle.rules.proofs.Translation.RecordCopies.{copies-in-all, copies-handed, last-in-none, at-most-14}

-- the size of what record n is translated to
abbrev size_of : List ℕ → ℕ → ℕ
size_of t n = tree_size (tree_at t n 0 0)

three-sums : (k : ℕ) (f g h v : ℕ → ℕ)
    → sum k (λ j. (f j + g j + h j) * v j) ≡ sum k (λ j. f j * v j) + sum k (λ j. g j * v j) + sum k (λ j. h j * v j)
three-sums k f g h v =
    sum-equal k (λ j. (f j + g j + h j) * v j) (λ j. (f j * v j + g j * v j) + h j * v j) (λ j p q. omega arith)
    ∙ sum-plus k (λ j. f j * v j + g j * v j) (λ j. h j * v j)
    ∙ ap (λ (z : ℕ). z + sum k (λ j. h j * v j)) (sum-plus k (λ j. f j * v j) (λ j. g j * v j))

module _ (t : List ℕ) (a : Accepted source t) where
  -- its own records, and its children's
  size-sum : (m : ℕ) → 1 ≤ m → m ≤ record_count t
      → size_of t m ≡ own_records (kind_of t m) + sum (record_count t) (λ j. copies_in t m j * size_of t j)
  size-sum m p q =
      let r = accepted-record source t a m p q in
      let l = size-law t m r.0 r.1 in
      let N = record_count t in
      let k = kind_of t m in
      let in-fields : ℕ → ℕ = λ j. cond (eqb (child_a t m) j) (copies_of_child k 0) 0
      + cond (eqb (child_b t m) j) (copies_of_child k 1) 0 + cond (eqb (child_c t m) j) 1 0 in
      let none : size_of t 0 ≡ 0 = sym (ap tree_size (none-at t 0 0 0 refl)) in
      let of_field : (x c : ℕ) → x ≤ m → sum N (λ j. cond (eqb x j) c 0 * size_of t j) ≡ c * size_of t x =
      λ x c h. sum-child N x c (size_of t) (omega arith) none in
      omega (
        arith,
        l.size 0 0,
        sum-equal N (λ j. copies_in t m j * size_of t j) (λ j. in-fields j * size_of t j)
            (λ j u v. ap (λ (z : ℕ). z * size_of t j) (copies-in-all t m j)),
        three-sums N (λ j. cond (eqb (child_a t m) j) (copies_of_child k 0) 0)
            (λ j. cond (eqb (child_b t m) j) (copies_of_child k 1) 0) (λ j. cond (eqb (child_c t m) j) 1 0) (size_of t),
        of_field (child_a t m) (copies_of_child k 0) (omega (arith, l.a-below)),
        of_field (child_b t m) (copies_of_child k 1) (omega (arith, l.b-below)),
        of_field (child_c t m) 1 (omega (arith, l.c-below)),
      )

  last-size : size_of t (record_count t) ≡ tree_size (statement_tree (translate (source_program t)))
  last-size = sym (ap tree_size (tree-as statement (node_at source t (record_count t)) 0 0 (accepted-last source t a)))

  -- the records that come from each are all the translation's
  pub all-records : sum (record_count t) (target_records t) ≡ tree_size (statement_tree (translate (source_program t)))
  all-records =
      let N = record_count t in
      let whole = count-all N (size_of t) (λ n. own_records (kind_of t n)) (copies_of t N) (copies_in t) size-sum
      (copies-handed t a) (last-in-none t a) a.not-empty in
      omega (arith, whole, ap (λ (c : ℕ). c * size_of t N) (copies-last t (passed-of source t a)), last-size)

pub size-bound : (t : List ℕ) → check source t ≡ Ok tt
    → tree_size (statement_tree (translate (source_program t))) ≤ 14 * record_count t
size-bound t h =
    let a = accepted-says source t h in
    omega (
      arith,
      all-records t a,
      sum-most (record_count t) 14 (target_records t) (at-most-14 t a),
    )

-- a let reaches it, here of a skip
abbrev pub skip_in_let : List ℕ
skip_in_let = table_bytes (of 40 0 0 ∷ of_all 47 1 1 0 0 (pos 0) ∷ [])

pub let-reaches-14 : (check source skip_in_let ≡ Ok tt) × (target_records skip_in_let 2 ≡ 14)
unfolding little digits word_at flat look_up form_of lowest record_fault times_child_of times_child shape_fault parent_of in_scope
    scope_fault level_of level_fault check copies_of
let-reaches-14 = (refl, refl)
