-- A table with bytes behind its records: the records are the same, and so are their nodes.
use Prim.Native.Nat.{ℕ, zero, suc, ◌+◌, ◌≤◌, ◌<◌}
use native.Mathlib.Omega.{arith}
use mathlib.Core.Bool.{Bool, true, false, ◌&&◌}
use mathlib.Core.List.{List, [], ◌∷◌, ◌++◌, map}
use mathlib.Core.Option.{Option, none, some}
use mathlib.Core.Path.{◌≡◌, refl, sym, ap, ap₂, ◌∙◌}
use borrow.Author.Tests.{ltb-true, le-leb}
use lib.Dec.{ltb, leb, eqb}
use mir.Syntax.{w64}
use mir.Val.{to_z}
use lib.ListN.{length, take, get_or, length-append, get_or-append}
use Rattle.std.specs.Prelude.{is_ok, Result}
use Rattle.rules.specs.Types.{Rule}
use Rattle.rules.specs.Words.{part, little, word_at}
use Rattle.rules.specs.Records.{Record, record_count, start, kind_of}
use Rattle.rules.specs.Records.{fields_of, record_at}
use Rattle.rules.specs.Kinds.{Language, sort_number, Field, unnamed, child, number, Form, field_of, form_of}
use Rattle.rules.specs.Checker.{fields_fit, sort_of, child_fits, children_fit, fault_of, record_fault}
use Rattle.rules.specs.Nodes.{NodeOf, build_node, nodes_fit, guarded, node_in, make_node, with_next, nodes, node_at}
use Rattle.rules.proofs.Acceptance.SaidLaws.{faults}

take-front : (n : ℕ) (t z : List ℕ) → n ≤ length t → take n (t ++ z) ≡ take n t
take-front zero t z h = refl
take-front (suc n) [] z h = absurd (omega arith)
take-front (suc n) (x ∷ t) z h = ap (λ (l : List ℕ). x ∷ l) (take-front n t z (omega arith))

part-front : (n : ℕ) (t z : List ℕ) (at : ℕ) → at + n ≤ length t → part n (t ++ z) at ≡ part n t at
part-front n t z zero h = take-front n t z (omega arith)
part-front n [] z (suc at) h = absurd (omega arith)
part-front n (x ∷ t) z (suc at) h = part-front n t z at (omega arith)

module _ (t z : List ℕ) where
  word-front : (n at : ℕ) → at + n ≤ length t → word_at n (t ++ z) at ≡ word_at n t at
  unfolding word_at
  word-front n at h = ap little (part-front n t z at h)

  byte-front : (i : ℕ) → i < length t → get_or (t ++ z) i 0 ≡ get_or t i 0
  byte-front i h = get_or-append t z 0 i h

  record-ends : (n : ℕ) → 1 ≤ record_count t → n ≤ record_count t → start n + 16 ≤ length t
  record-ends zero p q = omega arith
  record-ends (suc n) p q = omega arith

  kind-padded : (n : ℕ) → 1 ≤ record_count t → n ≤ record_count t → kind_of (t ++ z) n ≡ kind_of t n
  kind-padded n p q = byte-front (start n) (omega (arith, record-ends n p q))

  -- a record of the table
  pub record-padded : (n : ℕ) → 1 ≤ n → n ≤ record_count t → record_at (t ++ z) n ≡ record_at t n
  record-padded n p q =
      let e = record-ends n (omega arith) q in
      let k = byte-front (start n) (omega arith) in
      let m = byte-front (start n + 1) (omega arith) in
      let a = word-front 2 (start n + 2) (omega arith) in
      let b = word-front 2 (start n + 4) (omega arith) in
      let c = word-front 2 (start n + 6) (omega arith) in
      let v = word-front 8 (start n + 8) (omega arith) in
      λ i. record { kind = k i; mark = m i; a = a i; b = b i; c = c i; literal = to_z w64 (v i) }

  child-padded : (l : Language) (n : ℕ) (f : Field) (x : ℕ) → n ≤ record_count t
      → child_fits l (t ++ z) n f x ≡ child_fits l t n f x
  child-padded l n unnamed x q = refl
  child-padded l n (child s) x q = go (ltb x n) refl
    where
      go : (b : Bool) → ltb x n ≡ b
          → (b && eqb (sort_of l (kind_of (t ++ z) x)) (sort_number s)) ≡ (b && eqb (sort_of l (kind_of t x)) (sort_number s))
      go true e =
          let h = ltb-true x n e in
          ap (λ (k : ℕ). eqb (sort_of l k) (sort_number s)) (kind-padded x (omega arith) (omega arith))
      go false e = refl
  child-padded l n (number p) x q = refl

  children-padded : (l : Language) (n : ℕ) (f : Form) (r : Record) → n ≤ record_count t
      → children_fit l (t ++ z) n f r ≡ children_fit l t n f r
  children-padded l n f r q =
      λ i. child-padded l n (field_of f 0) r.a q i && child-padded l n (field_of f 1) r.b q i
      && child-padded l n (field_of f 2) r.c q i

  fault-padded : (l : Language) (n : ℕ) → 1 ≤ n → n ≤ record_count t → record_fault l (t ++ z) n ≡ record_fault l t n
  unfolding record_fault
  fault-padded l n p q =
      by_form (form_of l (kind_of (t ++ z) n))
      ∙ ap (λ (r : Record). fault_of l t n (form_of l r.kind)) e
    where
      e : record_at (t ++ z) n ≡ record_at t n
      e = record-padded n p q

      by_form : (o : Option Form) → fault_of l (t ++ z) n o ≡ fault_of l t n o
      by_form none = refl
      by_form (some f) =
          ap₂ (λ (u v : Bool). faults u v) (ap (fields_fit f) e)
          (children-padded l n f (record_at (t ++ z) n) q ∙ ap (children_fit l t n f) e)

  make-padded : (l : Language) (n : ℕ) (ns : List (NodeOf l)) → n ≤ record_count t
      → make_node l (t ++ z) n ns ≡ make_node l t n ns
  unfolding make_node
  make-padded l zero ns q = refl
  make-padded l (suc n) ns q =
      let r = record-padded (suc n) (omega arith) q in
      let f = fault-padded l (suc n) (omega arith) q in
      let w : leb (suc n) (record_count (t ++ z)) ≡ leb (suc n) (record_count t) =
      le-leb (suc n) (record_count (t ++ z)) (omega (arith, length-append t z))
      ∙ sym (le-leb (suc n) (record_count t) q) in
      λ i. from (w i) (f i) (r i)
    where
      from : Bool → Result Unit Rule → Record → NodeOf l
      from u v r =
          let cs = map (node_in l ns) (fields_of r) in
          guarded l (ltb 0 (suc n) && u && is_ok v && nodes_fit l (form_of l r.kind) cs) (build_node l (suc n) r cs)

  nodes-padded : (l : Language) (n : ℕ) → n ≤ suc (record_count t) → nodes l (t ++ z) n ≡ nodes l t n
  unfolding nodes
  nodes-padded l zero q = refl
  nodes-padded l (suc n) q =
      ap (with_next l (t ++ z) n) (nodes-padded l n (omega arith))
      ∙ ap (λ (x : NodeOf l). nodes l t n ++ (x ∷ [])) (make-padded l n (nodes l t n) (omega arith))

  pub node-padded : (l : Language) (n : ℕ) → n ≤ record_count t → node_at l (t ++ z) n ≡ node_at l t n
  unfolding node_at
  node-padded l n q =
      ap (make_node l (t ++ z) n) (nodes-padded l n (omega arith)) ∙ make-padded l n (nodes l t n) q
