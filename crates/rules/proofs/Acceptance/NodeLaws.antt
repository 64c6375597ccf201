-- The nodes of a table: node n is made of record n and of the nodes before it.
use Prim.Native.Nat.{ℕ, zero, suc, ◌≤◌, ◌<◌}
use native.Mathlib.Nat.{eq-or-lt_of_le}
use native.Mathlib.Numerals.{add-one}
use native.Mathlib.Omega.{arith}
use mathlib.Core.List.{List, [], ◌∷◌, map}
use mathlib.Core.Logic.{⊎_elim}
use mathlib.Core.Path.{◌≡◌, refl, ap, ◌∙◌}
use lib.ListN.{length, length-append, get_or-append, get_or-eq_default}
use lib.Seq.{get_or_at}
use Rattle.rules.specs.Records.{fields_of, child_a, child_b, child_c, record_at}
use Rattle.rules.specs.Kinds.{Language, source, target}
use Rattle.rules.specs.Nodes.{NodeOf, junk_node, sort_of_node, node_from, node_in, make_node, nodes, node_at}

pub length-nodes : (l : Language) (t : List ℕ) (n : ℕ) → length (nodes l t n) ≡ n
unfolding nodes
length-nodes l t zero = refl
length-nodes l t (suc n) =
    length-append (nodes l t n) (make_node l t n (nodes l t n) ∷ [])
    ∙ add-one (length (nodes l t n))
    ∙ ap suc (length-nodes l t n)

-- a node before n is what it is by itself, and none stands at n or past it
pub node-earlier : (l : Language) (t : List ℕ) (n x : ℕ) → x < n → node_in l (nodes l t n) x ≡ node_at l t x
unfolding nodes node_at
node-earlier l t zero x h = absurd (omega arith)
node-earlier l t (suc n) x h =
    ⊎_elim
    (λ e. rw e (get_or_at (nodes l t n) (make_node l t n (nodes l t n)) [] (junk_node l) n (length-nodes l t n)))
    (λ q.
    get_or-append (nodes l t n) (make_node l t n (nodes l t n) ∷ []) (junk_node l) x
    (omega (arith, length-nodes l t n))
    ∙ node-earlier l t n x q)
    (eq-or-lt_of_le (omega arith))

pub node-later : (l : Language) (t : List ℕ) (n x : ℕ) → n ≤ x → node_in l (nodes l t n) x ≡ junk_node l
node-later l t n x h = get_or-eq_default (nodes l t n) (junk_node l) (omega (arith, length-nodes l t n))

-- node x where it stands before n, else junk
abbrev pub node_before : (l : Language) → List ℕ → ℕ → ℕ → NodeOf l
node_before l t n x = node_in l (nodes l t n) x

-- node n of record n and of the nodes before it
pub node_law : (l : Language) (t : List ℕ) (n : ℕ) → node_at l t n
    ≡ node_from l t n (map (node_before l t n) (fields_of (record_at t n)))
unfolding node_at make_node
node_law l t n = refl

pub node-law-below : (l : Language) (t : List ℕ) (n : ℕ) → child_a t n < n → child_b t n < n → child_c t n < n
    → node_at l t n ≡ node_from l t n (map (node_at l t) (fields_of (record_at t n)))
node-law-below l t n p q r =
    node_law l t n
    ∙ (λ i.
    node_from l t n
    (node-earlier l t n (child_a t n) p i
    ∷ node-earlier l t n (child_b t n) q i
    ∷ node-earlier l t n (child_c t n) r i ∷ []))

-- there is no node 0
pub node-zero : (l : Language) (t : List ℕ) → node_at l t 0 ≡ junk_node l
node-zero l t = node_law l t 0

pub junk-sort : (l : Language) → sort_of_node l (junk_node l) ≡ 0
junk-sort source = refl
junk-sort target = refl
