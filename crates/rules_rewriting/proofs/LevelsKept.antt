-- In a source table that holds a tree, terms and predicates are at the levels that the tree has them at.
use Prim.Native.Nat.{ℕ, suc, ◌+◌, ◌≤◌, ◌<◌}
use native.Mathlib.Omega.{arith}
use mathlib.Core.Path.{◌≡◌, refl, sym, ap, ◌∙◌}
use mathlib.Core.Bool.{Bool, true, false, cond}
use mathlib.Core.List.{List, [], ◌∷◌}
use lib.Dec.{leb, eqb}
use lib.IntN.{ℤ}
use borrow.Author.Tests.{eq-eqb, ne_eqb, lt-leb}
use Rattle.rules.specs.Records.{Record, record_count, kind_of, record_at, fields_of}
use Rattle.rules.specs.Kinds.{source}
use Rattle.rules.specs.Checker.{level_below, position_in, level_of, highest_named, is_term_or_predicate, level_fault}
use Rattle.rules.specs.Emission.{RecordTree, none, node, tree_size, root_number, field_c}
use Rattle.rules.proofs.Acceptance.Sound.{Scope, start_scope}
use Rattle.rules.proofs.Translation.EmissionLaws.{Holds, root-size, Step, everywhere}
use Rattle.rules.proofs.Translation.FittingTrees.{scope_below, Fitting}
use Rattle.rules.proofs.Acceptance.ParentLaws.{Passed, same, same-yes}
use Rattle.rules.proofs.Acceptance.ScopeLaws.{level-child, level-last}
use Rattle.rules.proofs.Translation.ShapeLaws.{times-own}

-- the terms and predicates of a tree whose root is at level v name temporaries below 64
abbrev pub Levels : RecordTree → ℕ → Type 0
Levels none v = Unit {0}
Levels (node k m z x a b c) v =
    (is_term_or_predicate k ≡ true → highest_named k v < 64) × Levels a (level_below k 0 v)
    × Levels b (level_below k 1 v) × Levels c (level_below k 2 v)

-- 8 at a record, by whether it is a term or predicate, and by whether it names one above 63
abbrev verdict : Bool → Bool → Bool
verdict p b = elim p [ true ↦ b | false ↦ false ]

kept : (p b : Bool) → (p ≡ true → b ≡ false) → verdict p b ≡ false
kept true b h = h refl
kept false b h = refl

no-level-fault : (t : List ℕ) (j k v : ℕ) → kind_of t j ≡ k → level_of t (record_count t) j ≡ v
    → (is_term_or_predicate k ≡ true → highest_named k v < 64) → level_fault t j ≡ false
unfolding level_fault
no-level-fault t j k v ek ev h =
    (λ i. verdict (is_term_or_predicate (ek i)) (leb 64 (highest_named (ek i) (ev i))))
    ∙ kept (is_term_or_predicate k) (leb 64 (highest_named k v)) (λ p. lt-leb 64 (highest_named k v) (h p))

-- the roots of two trees, one's records before the other's, are two records
apart : (w u : RecordTree) (n m : ℕ) → n + tree_size w ≤ m → 0 < root_number u m
    → eqb (root_number w n) (root_number u m) ≡ false
apart w none n m h p = absurd (omega arith)
apart none (node k q z x a b c) n m h p = ne_eqb 0 (root_number (node k q z x a b c) m) (λ e. omega arith)
apart (node j r y v d e f) (node k q z x a b c) n m h p =
    ne_eqb (root_number (node j r y v d e f) n) (root_number (node k q z x a b c) m) (λ e. omega arith)

-- where the roots of A, B and C stand among their parent's fields
there : (c : RecordTree) (x n : ℕ) → 0 < root_number c n → field_c c x n ≡ root_number c n
there none x n p = absurd (omega arith)
there (node k q z y a b c) x n p = refl

module _ (a b c : RecordTree) (x n : ℕ) where
  abbrev nb : ℕ
  nb = n + tree_size a

  abbrev nc : ℕ
  nc = n + tree_size a + tree_size b

  abbrev places : List ℕ
  places = root_number a n ∷ root_number b nb ∷ field_c c x nc ∷ []

  first : position_in places (root_number a n) ≡ 0
  first =
      ap (λ (q : Bool). cond q 0 (suc (position_in (root_number b nb ∷ field_c c x nc ∷ []) (root_number a n))))
      (eq-eqb (root_number a n) (root_number a n) refl)

  second : 0 < root_number b nb → position_in places (root_number b nb) ≡ 1
  second p = λ i.
      cond (apart a b n nb (omega arith) p i) 0
      (suc (cond (eq-eqb (root_number b nb) (root_number b nb) refl i) 0
      (suc (position_in (field_c c x nc ∷ []) (root_number b nb)))))

  third : 0 < root_number c nc → position_in places (root_number c nc) ≡ 2
  third p = λ i.
      cond (apart a c n nc (omega arith) p i) 0
      (suc (cond (apart b c nb nc (omega arith) p i) 0
      (suc (cond (eq-eqb (field_c c x nc) (root_number c nc) (there c x nc p) i) 0 1))))

-- a tree's records in a table, with the level of its root
record Levelled (t : List ℕ) (w : RecordTree) (n : ℕ) : Type 0 where
  records : Holds (record_at t) w n
  in_scope_at_root : Scope
  fitting : Fitting source w in_scope_at_root
  level : ℕ
  levels : Levels w level
  at-root : 0 < root_number w n → level_of t (record_count t) (root_number w n) ≡ level
  inside : n + tree_size w ≤ record_count t

module _ (t : List ℕ) (keeps : Passed source t) where
  step : (k m : ℕ) (z : ℤ) (x : ℕ) (a b c : RecordTree) (n : ℕ) → Levelled t (node k m z x a b c) n
      → Step (λ j. level_fault t j ≡ false) (Levelled t) a b c n
  step k m z x a b c n h =
      let j : ℕ = n + suc (tree_size a + tree_size b + tree_size c) in
      let nb : ℕ = n + tree_size a in
      let nc : ℕ = n + tree_size a + tree_size b in
      let ρ : Scope = h.in_scope_at_root in
      let v : ℕ = h.level in
      let ek : kind_of t j ≡ k = ap (λ (r : Record). r.kind) h.records.3 in
      let here : level_of t (record_count t) j ≡ v = h.at-root (omega arith) in
      let above : (d q : ℕ) → 0 < d → position_in (places a b c x n) d ≡ q
      → 0 < same (root_number a n) d + same (root_number b nb) d + same (root_number c nc) d
      → level_of t (record_count t) d ≡ level_below k q v =
      λ d q p e r. level-child t keeps j d (record {
        in_table = omega (arith, h.inside);
        has-child = omega (arith, times-own source t k m z x a b c n d ρ p h.fitting.0 h.records);
      }) ∙ (λ i. level_below (ek i)
      ((ap (λ (r : Record). position_in (fields_of r) d) h.records.3 ∙ e) i) (here i)) in
      record {
        own = no-level-fault t j k v ek here h.levels.0;
        below-a = record {
          records = h.records.0;
          in_scope_at_root = scope_below k m ρ;
          fitting = h.fitting.1;
          level = level_below k 0 v;
          levels = h.levels.1;
          at-root = λ p. above (root_number a n) 0 p (first a b c x n)
              (omega (arith, same-yes (root_number a n)));
          inside = omega (arith, h.inside);
        };
        below-b = record {
          records = h.records.1;
          in_scope_at_root = scope_below k m ρ;
          fitting = h.fitting.2;
          level = level_below k 1 v;
          levels = h.levels.2;
          at-root = λ p. above (root_number b nb) 1 p (second a b c x n p)
              (omega (arith, same-yes (root_number b nb)));
          inside = omega (arith, h.inside);
        };
        below-c = record {
          records = h.records.2;
          in_scope_at_root = scope_below k m ρ;
          fitting = h.fitting.3;
          level = level_below k 2 v;
          levels = h.levels.3;
          at-root = λ p. above (root_number c nc) 2 p (third a b c x n p)
              (omega (arith, same-yes (root_number c nc)));
          inside = omega (arith, h.inside);
        };
      }

-- a whole table
pub levels-kept : (t : List ℕ) (w : RecordTree) → Passed source t → record_count t ≡ tree_size w
    → Holds (record_at t) w 0 → Fitting source w start_scope → Levels w 0
    → (j : ℕ) → 1 ≤ j → j ≤ record_count t → level_fault t j ≡ false
levels-kept t w keeps count holds fitting levels j p q =
    everywhere (λ j. level_fault t j ≡ false) (Levelled t) (step t keeps) w 0 (record {
      records = holds;
      in_scope_at_root = start_scope;
      fitting = fitting;
      level = 0;
      levels = levels;
      at-root = λ r. ap (level_of t (record_count t)) (root-size w ∙ sym count) ∙ level-last t keeps;
      inside = omega arith;
    }) j p (omega arith)
