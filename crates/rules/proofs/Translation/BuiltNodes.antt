-- The node of a record without fault, of the nodes of its children.
use Prim.Native.Nat.{ℕ, ◌≤◌, ◌<◌}
use mathlib.Core.Path.{◌≡◌, ◌∙◌, subst}
use mathlib.Core.Bool.{Bool, true}
use mathlib.Core.List.{List, [], ◌∷◌}
use borrow.Author.Tests.{lt-ltb, le-leb}
use Rattle.std.specs.Prelude.{Ok}
use Rattle.rules.specs.Records.{Record, record_count, record_at}
use Rattle.rules.specs.Kinds.{Language, form_of}
use Rattle.rules.specs.Checker.{record_fault}
use Rattle.rules.specs.Nodes.{NodeOf, build_node, nodes_fit, guarded, node_from, node_in, make_node, nodes, node_at}
use Rattle.rules.proofs.Lists.BooleanLaws.{both_true}
use Rattle.rules.proofs.Acceptance.SaidLaws.{kept-ok}

-- the nodes that record r, numbered n, has for children, of the sorts that its form asks for
abbrev pub ChildNodes : (l : Language) → List ℕ → ℕ → Record → NodeOf l → NodeOf l → NodeOf l → Type 0
ChildNodes l t n r a b c =
    (node_in l (nodes l t n) r.a ≡ a) × (node_in l (nodes l t n) r.b ≡ b) × (node_in l (nodes l t n) r.c ≡ c)
    × (nodes_fit l (form_of l r.kind) (a ∷ b ∷ c ∷ []) ≡ true)

guard_passed : (l : Language) (q : Bool) (x : NodeOf l) → q ≡ true → guarded l q x ≡ x
guard_passed l q x e = rw e

own-node : (l : Language) (t : List ℕ) (n : ℕ) → 0 < n → n ≤ record_count t → record_fault l t n ≡ Ok tt
    → (a b c : NodeOf l) → ChildNodes l t n (record_at t n) a b c → node_at l t n ≡ build_node l n (record_at t n) (a ∷ b ∷ c ∷ [])
unfolding node_at make_node
own-node l t n p q z a b c (ea, eb, ec, f) =
    (λ i. node_from l t n (ea i ∷ eb i ∷ ec i ∷ []))
    ∙ guard_passed l _ (build_node l n (record_at t n) (a ∷ b ∷ c ∷ []))
    (both_true _ _ (both_true _ _ (both_true _ _ (lt-ltb 0 n p) (le-leb n (record_count t) q))
    (kept-ok z)) f)

-- the node of a record without fault, of its children's nodes
pub built : (l : Language) (t : List ℕ) (n : ℕ) (r : Record) → record_at t n ≡ r → 0 < n → n ≤ record_count t
    → record_fault l t n ≡ Ok tt → (a b c : NodeOf l) → ChildNodes l t n r a b c
    → node_at l t n ≡ build_node l n r (a ∷ b ∷ c ∷ [])
built l t n r e p q z a b c =
    subst (λ (r : Record). ChildNodes l t n r a b c → node_at l t n ≡ build_node l n r (a ∷ b ∷ c ∷ [])) e
    (own-node l t n p q z a b c)
