-- The node of a tree's root, in a table that holds the tree: made of its own record and its children's nodes.
use Prim.Native.Nat.{ℕ, ◌+◌, ◌≤◌, ◌<◌}
use native.Mathlib.Omega.{arith}
use mathlib.Core.Path.{◌≡◌, refl, sym, ap, ◌∙◌}
use mathlib.Core.Bool.{true}
use mathlib.Core.List.{List, [], ◌∷◌}
use lib.IntN.{ℤ}
use Rattle.std.specs.Prelude.{Ok}
use Rattle.rules.specs.Records.{record_count, record_at, table_bytes}
use Rattle.rules.specs.Kinds.{Language, form_of}
use Rattle.rules.specs.Checker.{record_fault}
use Rattle.rules.specs.Nodes.{NodeOf, build_node, junk_node, nodes_fit, node_in, nodes, node_at}
use Rattle.rules.specs.Emission.{RecordTree, none, node, tree_size, root_number, field_c, emit}
use Rattle.rules.proofs.Acceptance.Sound.{Scope}
use Rattle.rules.proofs.Translation.EmissionLaws.{Holds, own_record, root-most, root-size, field-root}
use Rattle.rules.proofs.Translation.FittingTrees.{Fitting, Held, records-fit}
use Rattle.rules.proofs.Translation.EmittedBytes.{emitted, emitted-count}
use Rattle.rules.proofs.Acceptance.NodeLaws.{node-earlier, node-zero}
use Rattle.rules.proofs.Translation.BuiltNodes.{built}

-- the node of a tree's root
abbrev pub IsNode : (l : Language) → List ℕ → RecordTree → ℕ → NodeOf l → Type 0
IsNode l t w n x = node_at l t (root_number w n) ≡ x

pub no_node : (l : Language) (t : List ℕ) (n : ℕ) → IsNode l t none n (junk_node l)
no_node l t n = node-zero l t

child-node : (l : Language) (t : List ℕ) (w : RecordTree) (n j : ℕ) (x : NodeOf l) → n + tree_size w < j
    → IsNode l t w n x → node_in l (nodes l t j) (root_number w n) ≡ x
child-node l t w n j x h e = node-earlier l t j (root_number w n) (omega (arith, root-most w n)) ∙ e

pub field-node : (l : Language) (t : List ℕ) (w : RecordTree) (n j : ℕ) (x : NodeOf l) → n + tree_size w < j
    → IsNode l t w n x → node_in l (nodes l t j) (field_c w 0 n) ≡ x
field-node l t w n j x h e = rw (field-root w n) at (child-node l t w n j x h e)

-- the records of a table, up to its count, have no fault
pub record FaultFree (l : Language) (t : List ℕ) : Type 0 where
  pub no-fault : (j : ℕ) → 0 < j → j ≤ record_count t → record_fault l t j ≡ Ok tt

module _ {l : Language} {t : List ℕ} (clean : FaultFree l t) where
  -- of the nodes of A, of B and of whatever field C names
  pub root-node : (k m : ℕ) (z : ℤ) (x : ℕ) (a b c : RecordTree) (n : ℕ) (A B C : NodeOf l)
      → Holds (record_at t) (node k m z x a b c) n → n + tree_size (node k m z x a b c) ≤ record_count t
      → IsNode l t a n A → IsNode l t b (n + tree_size a) B
      → node_in l (nodes l t (n + tree_size (node k m z x a b c))) (field_c c x (n + tree_size a + tree_size b)) ≡ C
      → nodes_fit l (form_of l k) (A ∷ B ∷ C ∷ []) ≡ true
      → IsNode l t (node k m z x a b c) n
      (build_node l (n + tree_size (node k m z x a b c)) (own_record k m z x a b c n) (A ∷ B ∷ C ∷ []))
  root-node k m z x a b c n A B C h s ea eb ec f =
      let j : ℕ = n + tree_size (node k m z x a b c) in
      built l t j (own_record k m z x a b c n) h.3 (omega arith) s (clean.no-fault j (omega arith) s) A B C
      (child-node l t a n j A (omega arith) ea, child-node l t b (n + tree_size a) j B (omega arith) eb, ec, f)

  -- a tree with no child C, and one with no child at all
  pub two-node : (k m : ℕ) (z : ℤ) (x : ℕ) (a b : RecordTree) (n : ℕ) {A B y : NodeOf l}
      → Holds (record_at t) (node k m z x a b none) n → n + tree_size (node k m z x a b none) ≤ record_count t
      → IsNode l t a n A → IsNode l t b (n + tree_size a) B
      → ((C : NodeOf l) → nodes_fit l (form_of l k) (A ∷ B ∷ C ∷ []) ≡ true)
      → ((C : NodeOf l) → build_node l (n + tree_size (node k m z x a b none)) (own_record k m z x a b none n)
      (A ∷ B ∷ C ∷ []) ≡ y)
      → IsNode l t (node k m z x a b none) n y
  two-node k m z x a b n {A} {B} h s ea eb f g =
      let C : NodeOf l = node_in l (nodes l t (n + tree_size (node k m z x a b none))) x in
      root-node k m z x a b none n A B C h s ea eb refl (f C) ∙ g C

  pub leaf-node : (k m : ℕ) (z : ℤ) (x n : ℕ) {y : NodeOf l}
      → Holds (record_at t) (node k m z x none none none) n → n + 1 ≤ record_count t
      → ((C : NodeOf l) → nodes_fit l (form_of l k) (junk_node l ∷ junk_node l ∷ C ∷ []) ≡ true)
      → ((C : NodeOf l)
      → build_node l (n + 1) (own_record k m z x none none none n) (junk_node l ∷ junk_node l ∷ C ∷ []) ≡ y)
      → IsNode l t (node k m z x none none none) n y
  leaf-node k m z x n h s f g = two-node k m z x none none n h s (no_node l t n) (no_node l t (n + 0)) f g

-- what the root of a tree in a table is, is the last record of the tree's bytes
pub last-node : (l : Language) (w : RecordTree) (ρ : Scope) (x : NodeOf l) → Fitting l w ρ → tree_size w ≤ 4096
    → ((t : List ℕ) → FaultFree l t → Holds (record_at t) w 0 → tree_size w ≤ record_count t → IsNode l t w 0 x)
    → node_at l (table_bytes (emit w 0)) (record_count (table_bytes (emit w 0))) ≡ x
last-node l w ρ x h s f =
    let t : List ℕ = table_bytes (emit w 0) in
    let count : record_count t ≡ tree_size w = emitted-count w in
    let held : Held l t w 0 = emitted l w ρ h s in
    ap (node_at l t) (count ∙ sym (root-size w))
    ∙ f t (record { no-fault = λ j p q. records-fit l t w 0 held j p (omega arith) }) held.records (omega arith)
