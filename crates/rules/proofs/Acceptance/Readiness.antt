-- What a record of an accepted table hands to the proof that its tree is sound.
use Prim.Native.Nat.{ℕ, zero, suc, ◌+◌, ◌≤◌, ◌<◌}
use native.Mathlib.Omega.{arith}
use mathlib.Core.Bool.{Bool, true, false, cond}
use mathlib.Core.List.{List}
use mathlib.Core.Option.{some}
use mathlib.Core.Path.{◌≡◌, refl, sym, ap, ◌∙◌, subst, subst₂}
use borrow.Author.Tests.{leb-false, eq-eqb, ne_eqb, not-false}
use lib.Dec.{eqb}
use Rattle.rules.specs.Words.{word_at}
use Rattle.rules.specs.Records.{fields_of, record_count, kind_of, mark_of, child_a, child_b, child_c, literal_of}
use Rattle.rules.specs.Records.{record_at, start}
use Rattle.rules.specs.Kinds.{Language, source, target, Sort, expression, place, term, predicate, statement}
use Rattle.rules.specs.Kinds.{Field, unnamed, child, number, Form, field_of, form_of, record_limit}
use Rattle.rules.specs.Checker.{times_in, times_child_of, scope_fault, level_below, highest_named, is_term_or_predicate}
use Rattle.rules.specs.Checker.{position_in, level_fault}
use Rattle.rules.specs.Numbers.{in_range}
use Rattle.rules.specs.Nodes.{NodeOf, as_expression, as_place, as_term, as_predicate, source_statement}
use Rattle.rules.specs.Nodes.{target_statement, node_at}
use Rattle.rules.proofs.Acceptance.Sound.{Scope, start_scope, SoundExpression, SoundPlace, NoName, Named}
use Rattle.rules.proofs.Acceptance.Sound.{SoundTerm}
use Rattle.rules.proofs.Acceptance.Sound.{SoundPredicate, SoundStatement, SoundTarget}
use Rattle.rules.proofs.Lists.BooleanLaws.{eqb_swap}
use Rattle.rules.proofs.Acceptance.Acceptance.{Accepted, passed-of}
use Rattle.rules.proofs.Acceptance.KindViews.{form_at, found_at, found-kind, KindOf}
use Rattle.rules.proofs.Acceptance.FormLaws.{FieldHolds, node_as, FormHolds}
use Rattle.rules.proofs.Acceptance.Standing.{Stands, stands}
use Rattle.rules.proofs.Acceptance.AcceptedTrees.{accepted-last}
use Rattle.rules.proofs.Acceptance.ParentLaws.{times-by-fields, same-yes, IsParent, child-single}
use Rattle.rules.proofs.Acceptance.RecordScopes.{scope_at, level_at, scope_below, scope-child, scope-last}
use Rattle.rules.proofs.Acceptance.RecordScopes.{level-child}
use Rattle.rules.proofs.Lists.WordLaws.{integer-range}

-- a node of sort s is sound in scope ρ at level v
abbrev pub SoundAs : (l : Language) → Sort → NodeOf l → Scope → ℕ → Type 0
SoundAs source expression x ρ v = SoundExpression (as_expression x) NoName ρ
SoundAs source place x ρ v = SoundPlace (as_place x) NoName ρ
SoundAs source term x ρ v = SoundTerm (as_term x) ρ v
SoundAs source predicate x ρ v = SoundPredicate (as_predicate x) ρ v
SoundAs source statement x ρ v = SoundStatement (source_statement x) ρ
SoundAs target expression x ρ v = SoundExpression (as_expression x) Named ρ
SoundAs target place x ρ v = SoundPlace (as_place x) Named ρ
SoundAs target term x ρ v = Unit {0}
SoundAs target predicate x ρ v = Unit {0}
SoundAs target statement x ρ v = SoundTarget (target_statement x) ρ

-- node n of sort s is sound where it stands
abbrev pub SoundAt : Language → List ℕ → ℕ → Sort → Type 0
SoundAt l t n s = SoundAs l s (node_at l t n) (scope_at l t n) (level_at l t n)

abbrev pub ChildSound : (l : Language) → List ℕ → Field → ℕ → Scope → ℕ → Type 0
ChildSound l t unnamed x ρ v = Unit {0}
ChildSound l t (child s) x ρ v = SoundAs l s (node_at l t x) ρ v
ChildSound l t (number p) x ρ v = Unit {0}

abbrev pub level_under : Language → ℕ → ℕ → ℕ → ℕ
level_under source k i v = level_below k i v
level_under target k i v = 0

-- which of record n's fields x is
abbrev pub position_of : List ℕ → ℕ → ℕ → ℕ
position_of t n x = position_in (fields_of (record_at t n)) x

-- rule 8 of a record of kind k at level v
abbrev pub NamesBelow : Language → ℕ → ℕ → Type 0
NamesBelow source k v = is_term_or_predicate k ≡ true → highest_named k v < 64
NamesBelow target k v = Unit {0}

-- A and B, where both are children, are not the same record
abbrev pub Apart : Field → Field → ℕ → ℕ → Type 0
Apart unnamed g x y = Unit {0}
Apart (child r) unnamed x y = Unit {0}
Apart (child r) (child s) x y = eqb x y ≡ false
Apart (child r) (number p) x y = Unit {0}
Apart (number p) g x y = Unit {0}

pub record Ready (l : Language) (t : List ℕ) (n : ℕ) (f : Form) : Type 0 where
  pub from_one : 1 ≤ n
  pub within : n ≤ record_limit l
  pub holds : FormHolds l t n f
  pub range : in_range (literal_of t n) ≡ true
  pub uses : f.kind ≡ 10 → scope_at l t n (mark_of t n) ≡ true
  pub lets : f.kind ≡ 47 → scope_at l t n (mark_of t n) ≡ false
  pub names : NamesBelow l f.kind (level_at l t n)
  pub apart : Apart (field_of f 0) (field_of f 1) (child_a t n) (child_b t n)
  pub a : ChildSound l t (field_of f 0) (child_a t n) (scope_below f.kind (mark_of t n) (scope_at l t n))
      (level_under l f.kind (position_of t n (child_a t n)) (level_at l t n))
  pub b : ChildSound l t (field_of f 1) (child_b t n) (scope_below f.kind (mark_of t n) (scope_at l t n))
      (level_under l f.kind (position_of t n (child_b t n)) (level_at l t n))
  pub c : ChildSound l t (field_of f 2) (child_c t n) (scope_below f.kind (mark_of t n) (scope_at l t n))
      (level_under l f.kind (position_of t n (child_c t n)) (level_at l t n))

-- the record's own rules
scope-used : (l : Language) (t : List ℕ) (n : ℕ) → scope_fault l t n ≡ false → kind_of t n ≡ 10
    → scope_at l t n (mark_of t n) ≡ true
unfolding scope_fault
scope-used l t n h e = not-false _ (rw (eq-eqb (kind_of t n) 10 e, scope_fault) at h)

scope-let : (l : Language) (t : List ℕ) (n : ℕ) → scope_fault l t n ≡ false → kind_of t n ≡ 47
    → scope_at l t n (mark_of t n) ≡ false
unfolding scope_fault
scope-let l t n h e =
    rw (eq-eqb (kind_of t n) 47 e) at (rw (ne_eqb (kind_of t n) 10 (λ d. omega arith), scope_fault) at h)

level-named : (t : List ℕ) (n : ℕ) → level_fault t n ≡ false → is_term_or_predicate (kind_of t n) ≡ true
    → highest_named (kind_of t n) (level_at source t n) < 64
unfolding level_fault
level-named t n h e = leb-false 64 _ (rw (e, level_fault) at h)

names-below : (l : Language) (t : List ℕ) → Accepted l t → (n : ℕ) → 1 ≤ n → n ≤ record_count t
    → NamesBelow l (kind_of t n) (level_at l t n)
names-below source t a n p q = level-named t n (a.levels n p q)
names-below target t a n p q = tt

level-of-child : (l : Language) (t : List ℕ) → Accepted l t → (m n : ℕ) → IsParent l t m n
    → level_at l t n ≡ level_under l (kind_of t m) (position_of t m n) (level_at l t m)
level-of-child source t a m n e = level-child t a m n e
level-of-child target t a m n e = refl

-- A and B both children: the record is a child of n once
are-apart : (g h : Field) (x y z : ℕ) → times_in g x x + times_in h y x + z ≡ 1 → Apart g h x y
are-apart unnamed h x y z e = tt
are-apart (child r) unnamed x y z e = tt
are-apart (child r) (child s) x y z e = eqb_swap x y ∙ go (eqb y x) (omega (arith, same-yes x, e))
  where
    go : (b : Bool) → cond b 1 0 ≤ 0 → b ≡ false
    go true q = absurd (omega arith)
    go false q = refl
are-apart (child r) (number p) x y z e = tt
are-apart (number p) h x y z e = tt

module _ (l : Language) (t : List ℕ) (a : Accepted l t) (n : ℕ) (p : 1 ≤ n) (q : n ≤ record_count t)
    (f : Form) (o : form_of l (kind_of t n) ≡ some f) (holds : FormHolds l t n f)
    (sound : (x : ℕ) → x < n → (s : Sort) → Stands l t x s → SoundAt l t x s) where
  child-sound : (g : Field) (x : ℕ) → FieldHolds l t n g x → times_in g x x ≤ times_child_of l t n x
      → ChildSound l t g x (scope_below f.kind (mark_of t n) (scope_at l t n))
      (level_under l f.kind (position_of t n x) (level_at l t n))
  child-sound unnamed x h w = tt
  child-sound (child s) x h w =
      let k = found-kind l (kind_of t n) f o in
      let e : IsParent l t n x = record { in_table = (p, q); has-child = omega (arith, same-yes x) } in
      subst₂ (SoundAs l s (node_at l t x))
      (scope-child l t a n x e ∙ ap (λ (j : ℕ). scope_below j (mark_of t n) (scope_at l t n)) k)
      (level-of-child l t a n x e ∙ ap (λ (j : ℕ). level_under l j (position_of t n x) (level_at l t n)) k)
      (sound x h.1 s (stands l t x s h.2))
  child-sound (number g) x h w = tt

  apart-here : (g : Field) → g ≡ field_of f 0 → FieldHolds l t n g (child_a t n)
      → Apart g (field_of f 1) (child_a t n) (child_b t n)
  apart-here unnamed e h = tt
  apart-here (child s) e h =
      let x = child_a t n in
      let rest = times_in (field_of f 2) (child_c t n) x in
      let w : times_in (child s) x x + times_in (field_of f 1) (child_b t n) x + rest ≡ times_child_of l t n x =
      ap (λ (g : Field). times_in g x x + times_in (field_of f 1) (child_b t n) x + rest) e
      ∙ sym (times-by-fields l t n x f o) in
      are-apart (child s) (field_of f 1) x (child_b t n) rest
      (w ∙ child-single l t (passed-of l t a) n x
      (record { in_table = (p, q); has-child = omega (arith, same-yes x, w) }))
  apart-here (number g) e h = tt

  pub ready : Ready l t n f
  ready =
      let k = found-kind l (kind_of t n) f o in
      record {
        from_one = p;
        within = omega (arith, a.not-too-many);
        holds = holds;
        range = integer-range (word_at 8 t (start n + 8));
        uses = λ e. scope-used l t n (a.scopes n p q) (k ∙ e);
        lets = λ e. scope-let l t n (a.scopes n p q) (k ∙ e);
        names = subst (λ (j : ℕ). NamesBelow l j (level_at l t n)) k (names-below l t a n p q);
        apart = apart-here (field_of f 0) refl holds.a;
        a = child-sound (field_of f 0) (child_a t n) holds.a (omega (arith, times-by-fields l t n (child_a t n) f o));
        b = child-sound (field_of f 1) (child_b t n) holds.b (omega (arith, times-by-fields l t n (child_b t n) f o));
        c = child-sound (field_of f 2) (child_c t n) holds.c (omega (arith, times-by-fields l t n (child_c t n) f o));
      }

pub node-as : (l : Language) (t : List ℕ) (n : ℕ) (s : Sort) → Stands l t n s
    → node_as l (kind_of t n) t n ≡ node_at l t n
node-as l t n s w =
    ap (λ (k : ℕ). node_as l k t n) (found-kind l (kind_of t n) w.form w.found) ∙ sym w.holds.node

-- where each kind's node is sound by what its record hands on, every node is
module _ (l : Language) (t : List ℕ) (a : Accepted l t)
    (arm : (n : ℕ) (s : Sort) (k : ℕ) → KindOf l s k → Ready l t n (form_at l k)
    → SoundAs l s (node_as l k t n) (scope_at l t n) (level_at l t n)) where
  sound-below : (m n : ℕ) → n < m → (s : Sort) → Stands l t n s → SoundAt l t n s
  sound-below zero n d s w = absurd (omega arith)
  sound-below (suc m) n d s w =
      let o = w.found in
      let r = ready l t a n w.from_one w.within w.form o w.holds
      (λ x e r u. sound-below m x (omega arith) r u) in
      subst (λ (x : NodeOf l). SoundAs l s x (scope_at l t n) (level_at l t n)) (node-as l t n s w)
      (arm n s (kind_of t n) w.kind (subst (Ready l t n) (found_at l (kind_of t n) w.form o) r))

  pub sound-last : SoundAs l statement (node_at l t (record_count t)) start_scope (level_at l t (record_count t))
  sound-last =
      let N = record_count t in
      subst (λ (ρ : Scope). SoundAs l statement (node_at l t N) ρ (level_at l t N)) (scope-last l t a)
      (sound-below (suc N) N (omega arith) statement (stands l t N statement (accepted-last l t a)))
