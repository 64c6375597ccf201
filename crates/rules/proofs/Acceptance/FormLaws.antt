-- What a record's form says of its fields, and that a record that fits is the tree that its fields say.
use Prim.Native.Nat.{ℕ, ◌≤◌, ◌<◌}
use native.Mathlib.Decide.{dec_lt}
use native.Mathlib.Omega.{arith}
use mathlib.Core.Bool.{Bool, true, false, ◌&&◌, ◌||◌, false≢true}
use mathlib.Core.List.{List, [], ◌∷◌, map}
use mathlib.Core.Option.{Option, none, some}
use mathlib.Core.Path.{◌≡◌, refl, sym, ap, ◌∙◌, subst}
use borrow.Author.Tests.{ltb-true, leb-true, lt-ltb, le-leb, eqb-true}
use lib.Dec.{ltb, leb, eqb}
use lib.IntN.{ℤ, pos, negsuc, nat_abs}
use lib.Signed.{le_z}
use Rattle.std.specs.Prelude.{Ok, is_ok}
use Rattle.rules.specs.Records.{Record, fields_of, record_count, kind_of, mark_of, child_a, child_b, child_c, literal_of}
use Rattle.rules.specs.Records.{record_at}
use Rattle.rules.specs.Kinds.{Language, source, target, Sort, sort_number, expression, place, term, predicate}
use Rattle.rules.specs.Kinds.{statement, Field, unnamed, child, number, Literal, zero_literal, any_literal}
use Rattle.rules.specs.Kinds.{statement_literal, Form, field_of, forms, form_of}
use Rattle.rules.specs.Checker.{field_fits, literal_fits, fields_fit, children_fit, fault_of, record_fault}
use Rattle.rules.specs.Nodes.{NodeOf, build_node, sort_of_node, node_fits, nodes_fit, guarded, node_at}
use Rattle.rules.proofs.Lists.BooleanLaws.{three-pass, five-pass}
use Rattle.rules.proofs.Acceptance.KindViews.{and_split, every, found-passes, found-kind}
use Rattle.rules.proofs.Acceptance.NodeLaws.{node_before, node-earlier, node-later, node_law, junk-sort}
use Rattle.rules.proofs.Acceptance.SaidLaws.{faults, err-is-not-ok, kept-ok}

-- what each field of record n is, by the form
abbrev pub FieldHolds : (l : Language) → List ℕ → ℕ → Field → ℕ → Type 0
FieldHolds l t n unnamed x = x ≡ 0
FieldHolds l t n (child s) x = (1 ≤ x) × (x < n) × (sort_of_node l (node_at l t x) ≡ sort_number s)
FieldHolds l t n (number p) x = p x ≡ true

-- no mark is a child
abbrev pub MarkHolds : Field → ℕ → Type 0
MarkHolds unnamed x = x ≡ 0
MarkHolds (child s) x = Unit {0}
MarkHolds (number p) x = p x ≡ true

abbrev pub LiteralHolds : Literal → ℤ → Type 0
LiteralHolds zero_literal z = z ≡ pos 0
LiteralHolds any_literal z = Unit {0}
LiteralHolds statement_literal z = (1 ≤ nat_abs z) × (nat_abs z ≤ 256) × (z ≡ pos (nat_abs z))

-- record n with its kind written as k
abbrev pub record_as : ℕ → List ℕ → ℕ → Record
record_as k t n = record {
  kind = k;
  mark = mark_of t n;
  a = child_a t n;
  b = child_b t n;
  c = child_c t n;
  literal = literal_of t n;
}

-- the node that record n is, as a record of kind k, its children's being what they are by themselves
abbrev pub node_as : (l : Language) → ℕ → List ℕ → ℕ → NodeOf l
node_as l k t n =
    build_node l n (record_as k t n) (map (node_at l t) (fields_of (record_at t n)))

-- record n keeps its form, and its node is what the fields say
pub record FormHolds (l : Language) (t : List ℕ) (n : ℕ) (f : Form) : Type 0 where
  pub mark : MarkHolds f.mark (mark_of t n)
  pub a : FieldHolds l t n (field_of f 0) (child_a t n)
  pub b : FieldHolds l t n (field_of f 1) (child_b t n)
  pub c : FieldHolds l t n (field_of f 2) (child_c t n)
  pub literal : LiteralHolds f.literal (literal_of t n)
  pub node : node_at l t n ≡ node_as l f.kind t n

literal-zero : (z : ℤ) → (le_z z (pos 0) && le_z (pos 0) z) ≡ true → z ≡ pos 0
literal-zero (pos n) h = ap pos (omega (arith, leb-true n 0 (and_split (leb n 0) (leb 0 n) h).0))
literal-zero (negsuc n) h = absurd (false≢true h)

literal-statement : (z : ℤ) → (le_z (pos 1) z && le_z z (pos 256)) ≡ true → LiteralHolds statement_literal z
literal-statement (pos n) h =
    let r = and_split (leb 1 n) (leb n 256) h in
    (leb-true 1 n r.0, leb-true n 256 r.1, refl)
literal-statement (negsuc n) h = absurd (false≢true h)

literal-holds : (f : Literal) (z : ℤ) → literal_fits f z ≡ true → LiteralHolds f z
literal-holds zero_literal z h = literal-zero z h
literal-holds any_literal z h = tt
literal-holds statement_literal z h = literal-statement z h

mark-holds : (f : Field) (x : ℕ) → field_fits f x ≡ true → MarkHolds f x
mark-holds unnamed x h = eqb-true x 0 h
mark-holds (child s) x h = tt
mark-holds (number p) x h = h

pub some-sort : (s : Sort) → 1 ≤ sort_number s
some-sort expression = omega arith
some-sort place = omega arith
some-sort term = omega arith
some-sort predicate = omega arith
some-sort statement = omega arith

-- a child's node that has a sort stands before n
field-holds : (l : Language) (t : List ℕ) (n : ℕ) (f : Field) (x : ℕ) → field_fits f x ≡ true
    → node_fits l f (node_before l t n x) ≡ true → FieldHolds l t n f x
field-holds l t n unnamed x h q = eqb-true x 0 h
field-holds l t n (child s) x h q = go (dec_lt x n)
  where
    e : sort_of_node l (node_before l t n x) ≡ sort_number s
    e = eqb-true (sort_of_node l (node_before l t n x)) (sort_number s) q

    go : Dec (x < n) → FieldHolds l t n (child s) x
    go (yes d) = (ltb-true 0 x h, d, sym (ap (sort_of_node l) (node-earlier l t n x d)) ∙ e)
    go (no d) =
        let z = sym e ∙ ap (sort_of_node l) (node-later l t n x (omega arith)) ∙ junk-sort l in
        absurd (omega (arith, some-sort s, z))
field-holds l t n (number p) x h q = h

pub fields_split : (f : Form) (r : Record) → fields_fit f r ≡ true
    → (field_fits f.mark r.mark ≡ true) × (field_fits (field_of f 0) r.a ≡ true)
    × (field_fits (field_of f 1) r.b ≡ true) × (field_fits (field_of f 2) r.c ≡ true)
    × (literal_fits f.literal r.literal ≡ true)
fields_split f r h = five-pass _ _ _ _ (literal_fits f.literal r.literal) h

-- a record without fault has a form, and its fields and children fit it
pub record Faultless (l : Language) (t : List ℕ) (n : ℕ) (o : Option Form) : Type 0 where
  pub form : Form
  pub found : o ≡ some form
  pub fields : fields_fit form (record_at t n) ≡ true
  pub children : children_fit l t n form (record_at t n) ≡ true

no-fault : (l : Language) (t : List ℕ) (n : ℕ) (o : Option Form) → fault_of l t n o ≡ Ok tt → Faultless l t n o
no-fault l t n none h = absurd (err-is-not-ok h)
no-fault l t n (some f) h = go (fields_fit f (record_at t n)) (children_fit l t n f (record_at t n)) refl refl h
  where
    go : (p q : Bool) → fields_fit f (record_at t n) ≡ p → children_fit l t n f (record_at t n) ≡ q
        → faults p q ≡ Ok tt → Faultless l t n (some f)
    go true true d e r = record { form = f; found = refl; fields = d; children = e }
    go true false d e r = absurd (err-is-not-ok r)
    go false q d e r = absurd (err-is-not-ok r)

pub faultless : (l : Language) (t : List ℕ) (n : ℕ) → record_fault l t n ≡ Ok tt
    → Faultless l t n (form_of l (kind_of t n))
unfolding record_fault
faultless l t n h = no-fault l t n (form_of l (kind_of t n)) h

-- a field that is no child counts for nothing in the node
is_plain : Field → Bool
is_plain unnamed = true
is_plain (child s) = true
is_plain (number p) = false

reads_children : Form → Bool
reads_children f =
    is_plain (field_of f 0) && is_plain (field_of f 1)
    && (is_plain (field_of f 2) || eqb f.kind 63 || eqb f.kind 64)

each-reads : (l : Language) → every reads_children (forms l) ≡ true
unfolding reads_children is_plain
each-reads source = refl
each-reads target = refl

-- kinds 63 and 64 alone have a number in field C
ignores-c : (l : Language) (k : ℕ) (p : Bool) (t : List ℕ) (n : ℕ) (a b c d : NodeOf l) → (p ≡ true → c ≡ d)
    → (p || eqb k 63 || eqb k 64) ≡ true
    → build_node l n (record_as k t n) (a ∷ b ∷ c ∷ []) ≡ build_node l n (record_as k t n) (a ∷ b ∷ d ∷ [])
ignores-c l k true t n a b c d e h = ap (λ z. build_node l n (record_as k t n) (a ∷ b ∷ z ∷ [])) (e refl)
ignores-c l k false t n a b c d e h = go (eqb k 63) refl h
  where
    Same : (l : Language) → NodeOf l → NodeOf l → NodeOf l → NodeOf l → ℕ → Type 0
    Same l a b c d j = build_node l n (record_as j t n) (a ∷ b ∷ c ∷ []) ≡ build_node l n (record_as j t n) (a ∷ b ∷ d ∷ [])

    as_number : (l : Language) (a b c d : NodeOf l) → Same l a b c d 63 × Same l a b c d 64
    as_number source a b c d = (refl, refl)
    as_number target a b c d = (refl, refl)

    go : (q : Bool) → eqb k 63 ≡ q → (q || eqb k 64) ≡ true → Same l a b c d k
    go true u v = subst (Same l a b c d) (sym (eqb-true k 63 u)) (as_number l a b c d).0
    go false u v = subst (Same l a b c d) (sym (eqb-true k 64 v)) (as_number l a b c d).1

plain-node : (l : Language) (t : List ℕ) (n : ℕ) (f : Field) (x : ℕ) → 1 ≤ n → FieldHolds l t n f x → is_plain f ≡ true
    → node_before l t n x ≡ node_at l t x
unfolding is_plain
plain-node l t n unnamed x p h q = node-earlier l t n x (omega arith)
plain-node l t n (child s) x p h q = node-earlier l t n x h.1
plain-node l t n (number g) x p h q = absurd (false≢true q)

abbrev pub node_under : (l : Language) → List ℕ → ℕ → NodeOf l
node_under l t n = build_node l n (record_at t n) (map (node_before l t n) (fields_of (record_at t n)))

built-as : (l : Language) (t : List ℕ) (n : ℕ) (f : Form) → 1 ≤ n → kind_of t n ≡ f.kind → reads_children f ≡ true
    → FieldHolds l t n (field_of f 0) (child_a t n) → FieldHolds l t n (field_of f 1) (child_b t n)
    → FieldHolds l t n (field_of f 2) (child_c t n) → node_under l t n ≡ node_as l f.kind t n
unfolding reads_children
built-as l t n f p k h a b c =
    let r = and_split (is_plain (field_of f 0) && is_plain (field_of f 1))
    (is_plain (field_of f 2) || eqb f.kind 63 || eqb f.kind 64) h in
    let q = and_split (is_plain (field_of f 0)) (is_plain (field_of f 1)) r.0 in
    let C = node_before l t n (child_c t n) in
    let a = plain-node l t n (field_of f 0) (child_a t n) p a q.0 in
    let b = plain-node l t n (field_of f 1) (child_b t n) p b q.1 in
    (λ i. build_node l n (record_as (k i) t n) (a i ∷ b i ∷ C ∷ []))
    ∙ ignores-c l f.kind (is_plain (field_of f 2)) t n (node_at l t (child_a t n)) (node_at l t (child_b t n)) C
    (node_at l t (child_c t n)) (plain-node l t n (field_of f 2) (child_c t n) p c) r.1

-- the nodes that record n has for children
abbrev pub nodes_under : (l : Language) → List ℕ → ℕ → Option Form → Bool
nodes_under l t n o = nodes_fit l o (map (node_before l t n) (fields_of (record_at t n)))

-- a record without fault whose children's nodes fit
kept : (l : Language) (t : List ℕ) (n : ℕ) (f : Form) → 1 ≤ n → form_of l (kind_of t n) ≡ some f
    → fields_fit f (record_at t n) ≡ true
    → nodes_under l t n (some f) ≡ true → node_at l t n ≡ node_under l t n → FormHolds l t n f
kept l t n f p o h q e =
    let A = node_before l t n (child_a t n) in
    let B = node_before l t n (child_b t n) in
    let C = node_before l t n (child_c t n) in
    let k = kind_of t n in
    let u = three-pass (node_fits l (field_of f 0) A) (node_fits l (field_of f 1) B) (node_fits l (field_of f 2) C) q in
    let v = fields_split f (record_at t n) h in
    let a = field-holds l t n (field_of f 0) (child_a t n) v.1 u.0 in
    let b = field-holds l t n (field_of f 1) (child_b t n) v.2 u.1 in
    let c = field-holds l t n (field_of f 2) (child_c t n) v.3 u.2 in
    record {
      mark = mark-holds f.mark (mark_of t n) v.0;
      a = a;
      b = b;
      c = c;
      literal = literal-holds f.literal (literal_of t n) v.4;
      node = e ∙ built-as l t n f p (found-kind l k f o) (found-passes reads_children l k f (each-reads l) o) a b c;
    }

-- what makes node n no junk
abbrev pub in_table : (l : Language) → List ℕ → ℕ → Option Form → Bool
in_table l t n o = ltb 0 n && leb n (record_count t) && is_ok (record_fault l t n) && nodes_under l t n o

-- where record n is in the table, without fault, and its children's nodes fit, its node is no junk
pub node-built : (l : Language) (t : List ℕ) (n : ℕ) (f : Form) → 1 ≤ n → n ≤ record_count t
    → record_fault l t n ≡ Ok tt → form_of l (kind_of t n) ≡ some f → fields_fit f (record_at t n) ≡ true
    → nodes_under l t n (some f) ≡ true → FormHolds l t n f
node-built l t n f p q r o h w =
    let g : in_table l t n (form_of l (kind_of t n)) ≡ true =
    rw (lt-ltb 0 n p, le-leb n (record_count t) q, kept-ok r, o) w in
    kept l t n f p o h w (node_law l t n ∙ ap (λ (b : Bool). guarded l b (node_under l t n)) g)
