-- An expression's or a place's tree is a copy of its records.
use Prim.Native.Nat.{ℕ, zero, suc, ◌≤◌, ◌<◌}
use native.Mathlib.Omega.{arith}
use mathlib.Core.Bool.{true}
use mathlib.Core.Logic.{inl, inr}
use mathlib.Core.Path.{◌≡◌, refl, sym, ap, ◌∙◌}
use mathlib.Core.List.{List}
use borrow.Author.Tests.{leb-true}
use lib.Dec.{leb}
use lib.IntN.{ℤ, pos}
use Rattle.rules.specs.Records.{kind_of, mark_of, child_a, child_b, literal_of}
use Rattle.rules.specs.Kinds.{source, Sort, sort_number, expression, place, between}
use Rattle.rules.specs.Nodes.{SourceNode, operator_of, node_at}
use Rattle.rules.specs.Emission.{operator_number, RecordTree, none, node, expression_tree}
use Rattle.rules.specs.Translation.{embed}
use Rattle.rules.proofs.Acceptance.KindViews.{and_split, form_at, SourceKind, literal, read, address, operation, shifted}
use Rattle.rules.proofs.Acceptance.KindViews.{variable, pointed, value, base, offset, block_length, combined, valid}
use Rattle.rules.proofs.Acceptance.KindViews.{initialised}
use Rattle.rules.proofs.Acceptance.KindViews.{compared, negated, both, either, skip, assign, new, free, sequence}
use Rattle.rules.proofs.Acceptance.KindViews.{branch, while}
use Rattle.rules.proofs.Acceptance.KindViews.{let_in, assert}
use Rattle.rules.proofs.Acceptance.FormLaws.{FormHolds}
use Rattle.rules.proofs.Acceptance.Standing.{stands, stands_at}
use Rattle.table.specs.Within.{Within}
use Rattle.translation_sizes.specs.Trees.{target_tree, copy_at, sort_at}
use Rattle.translation_emission.specs.Emission.{Copied}
use Rattle.rules.proofs.Translation.RecordSizes.{none-at, tree-as}

-- an operator's number is its mark
pub operator-back : (m : ℕ) → 1 ≤ m → m ≤ 8 → operator_number (operator_of m) ≡ m
operator-back zero h l = absurd (omega arith)
operator-back (suc zero) h l = refl
operator-back (suc (suc zero)) h l = refl
operator-back (suc (suc (suc zero))) h l = refl
operator-back (suc (suc (suc (suc zero)))) h l = refl
operator-back (suc (suc (suc (suc (suc zero))))) h l = refl
operator-back (suc (suc (suc (suc (suc (suc zero)))))) h l = refl
operator-back (suc (suc (suc (suc (suc (suc (suc zero))))))) h l = refl
operator-back (suc (suc (suc (suc (suc (suc (suc (suc zero)))))))) h l = refl
operator-back (suc (suc (suc (suc (suc (suc (suc (suc (suc m))))))))) h l = absurd (omega arith)

-- ---- record n of an expression or a place
pub record CopyLaw (t : List ℕ) (n : ℕ) : Type 0 where
  pub within : Within t n
  pub a-below : child_a t n < n
  pub b-below : child_b t n < n
  pub a-copied : Copied t (child_a t n)
  pub b-copied : Copied t (child_b t n)
  pub tree : copy_at t n
      ≡ node (kind_of t n) (mark_of t n) (literal_of t n) 0 (copy_at t (child_a t n)) (copy_at t (child_b t n)) none

between-says : (low high x : ℕ) → between low high x ≡ true → (low ≤ x) × (x ≤ high)
between-says low high x h =
    let r = and_split (leb low x) (leb x high) h in
    (leb-true low x r.0, leb-true x high r.1)

module _ (t : List ℕ) (n : ℕ) where
  -- a field that has no child, and one that has an expression or a place
  absent : {x : ℕ} → 1 ≤ n → x ≡ 0 → (x < n) × Copied t x
  absent p e = (omega arith, inl e)

  present : {x : ℕ} (k : ℕ) → 1 ≤ k → k ≤ 2 → (1 ≤ x) × (x < n) × (sort_at t x ≡ k) → (x < n) × Copied t x
  present k p q h = let e = h.2 in (h.1, inr (omega arith, omega arith))

  copy-law : {a b : RecordTree} (k m : ℕ) (z : ℤ) → Within t n → (child_a t n < n) × Copied t (child_a t n)
      → (child_b t n < n) × Copied t (child_b t n) → copy_at t n ≡ node k m z 0 a b none → kind_of t n ≡ k
      → m ≡ mark_of t n → z ≡ literal_of t n → a ≡ copy_at t (child_a t n) → b ≡ copy_at t (child_b t n) → CopyLaw t n
  copy-law k m z w p q e d f g h i = record {
    within = w;
    a-below = p.0;
    b-below = q.0;
    a-copied = p.1;
    b-copied = q.1;
    tree = e ∙ (λ j. node (sym d j) (f j) (g j) 0 (h j) (i j) none);
  }

  tree_of : {y : SourceNode} → node_at source t n ≡ y → copy_at t n ≡ target_tree y 0 0
  tree_of e = ap (λ (x : SourceNode). target_tree x 0 0) e

  copy-arm : {s : Sort} {k : ℕ} → SourceKind s k → sort_number s ≤ 2 → kind_of t n ≡ k → Within t n
      → FormHolds source t n (form_at source k) → CopyLaw t n
  unfolding expression_tree embed
  copy-arm literal small e w h =
      copy-law 1 0 (literal_of t n) w (absent w.0 h.a) (absent w.0 h.b) (tree_of h.node) e
      (sym h.mark) refl (none-at t _ 0 0 h.a) (none-at t _ 0 0 h.b)
  copy-arm read small e w h =
      copy-law 2 0 (pos 0) w (present 2 (omega arith) (omega arith) h.a) (absent w.0 h.b) (tree_of h.node) e
      (sym h.mark) (sym h.literal) (tree-as place (node_at source t (child_a t n)) 0 0 h.a.2)
      (none-at t _ 0 0 h.b)
  copy-arm address small e w h =
      copy-law 3 0 (pos 0) w (present 2 (omega arith) (omega arith) h.a) (absent w.0 h.b) (tree_of h.node) e
      (sym h.mark) (sym h.literal) (tree-as place (node_at source t (child_a t n)) 0 0 h.a.2)
      (none-at t _ 0 0 h.b)
  copy-arm operation small e w h =
      let m = between-says 1 7 (mark_of t n) h.mark in
      copy-law 4 (operator_number (operator_of (mark_of t n))) (pos 0) w (present 1 (omega arith) (omega arith) h.a)
      (present 1 (omega arith) (omega arith) h.b) (tree_of h.node) e
      (operator-back (mark_of t n) m.0 (omega (arith, m.1))) (sym h.literal)
      (tree-as expression (node_at source t (child_a t n)) 0 0 h.a.2)
      (tree-as expression (node_at source t (child_b t n)) 0 0 h.b.2)
  copy-arm shifted small e w h =
      copy-law 5 0 (pos 0) w (present 1 (omega arith) (omega arith) h.a)
      (present 1 (omega arith) (omega arith) h.b) (tree_of h.node) e (sym h.mark) (sym h.literal)
      (tree-as expression (node_at source t (child_a t n)) 0 0 h.a.2)
      (tree-as expression (node_at source t (child_b t n)) 0 0 h.b.2)
  copy-arm variable small e w h =
      copy-law 10 (mark_of t n) (pos 0) w (absent w.0 h.a) (absent w.0 h.b) (tree_of h.node) e
      refl (sym h.literal) (none-at t _ 0 0 h.a) (none-at t _ 0 0 h.b)
  copy-arm pointed small e w h =
      copy-law 11 0 (pos 0) w (present 1 (omega arith) (omega arith) h.a) (absent w.0 h.b)
      (tree_of h.node) e
      (sym h.mark) (sym h.literal) (tree-as expression (node_at source t (child_a t n)) 0 0 h.a.2)
      (none-at t _ 0 0 h.b)
  copy-arm value small e w h = absurd (omega arith)
  copy-arm base small e w h = absurd (omega arith)
  copy-arm offset small e w h = absurd (omega arith)
  copy-arm block_length small e w h = absurd (omega arith)
  copy-arm combined small e w h = absurd (omega arith)
  copy-arm valid small e w h = absurd (omega arith)
  copy-arm initialised small e w h = absurd (omega arith)
  copy-arm compared small e w h = absurd (omega arith)
  copy-arm negated small e w h = absurd (omega arith)
  copy-arm both small e w h = absurd (omega arith)
  copy-arm either small e w h = absurd (omega arith)
  copy-arm skip small e w h = absurd (omega arith)
  copy-arm assign small e w h = absurd (omega arith)
  copy-arm new small e w h = absurd (omega arith)
  copy-arm free small e w h = absurd (omega arith)
  copy-arm sequence small e w h = absurd (omega arith)
  copy-arm branch small e w h = absurd (omega arith)
  copy-arm while small e w h = absurd (omega arith)
  copy-arm let_in small e w h = absurd (omega arith)
  copy-arm assert small e w h = absurd (omega arith)

-- what sort 1 or 2 says of record n
pub copy-at : (t : List ℕ) (n : ℕ) → 1 ≤ sort_at t n → sort_at t n ≤ 2 → CopyLaw t n
copy-at t n low high = go (sort_at t n) refl
  where
    by-sort : (s : Sort) → sort_number s ≤ 2 → sort_at t n ≡ sort_number s → CopyLaw t n
    by-sort s small e =
        let w = stands source t n s e in
        copy-arm t n w.kind small refl (w.from_one, w.within) (stands_at source t n (kind_of t n) s e refl)

    go : (k : ℕ) → sort_at t n ≡ k → CopyLaw t n
    go zero e = absurd (omega arith)
    go (suc zero) e = by-sort expression (omega arith) e
    go (suc (suc zero)) e = by-sort place (omega arith) e
    go (suc (suc (suc k))) e = absurd (omega arith)

pub copied_at : (t : List ℕ) (n : ℕ) → Copied t n → (n ≡ 0 → ⊥) → CopyLaw t n
copied_at t n (inl e) h = absurd (h e)
copied_at t n (inr q) h = copy-at t n q.0 q.1

pub within_copied : (t : List ℕ) (n : ℕ) → Copied t n → (n ≡ 0 → ⊥) → Within t n
within_copied t n q h = (copied_at t n q h).within
