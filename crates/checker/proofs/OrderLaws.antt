-- A rule's answer from the record found, and the rules in their order.
use Rattle.rules.specs.declared.{Rule.Rule, Refusal.Refusal}
use Prim.Native.Nat.{ℕ, ◌+◌, ◌%◌, ◌<◌, ◌≤◌}
use native.Mathlib.Omega.{arith}
use native.Mathlib.Decide.{dec_lt}
use mathlib.Core.Bool.{Bool, true, false, not, ◌||◌}
use mathlib.Core.List.{List}
use mathlib.Core.Path.{◌≡◌, refl, sym, ap, subst, ◌∙◌}
use borrow.Author.Tests.{eq-eqb, ne_eqb, lt-ltb, le-ltb}
use lib.Dec.{eqb}
use lib.ListN.{length}
use Rattle.rules.specs.Sizes.{target_limit}
use Rattle.rules.specs.Types.{Search, Checked}
use Rattle.rules.specs.Records.{record_count}
use Rattle.rules.specs.Kinds.{Language, source, target, record_limit}
use Rattle.rules.specs.Checker.{lowest_record, length_fault, count_fault, record_fault, shape_fault, scope_fault}
use Rattle.rules.specs.Checker.{refused, refuse_at, refuse_if, refused_at, refuse_by, ◌otherwise◌, last_rule, check}
use Rattle.rules.proofs.Lists.SearchLaws.{lowest-at, lowest-nothing, Outcome, lowest-outcome}
use Rattle.checker_forms.specs.Forms.{Before}
use Rattle.checker.specs.Scopes.{Sized, Formed, Found, Kept}
use Rattle.checker.specs.Order.{from_scopes, from_shapes, from_records}
use Rattle.std.specs.Prelude.{Result, Err, None, Some, Ok, IfSome}
use Rattle.std.specs.Prelude.{is_err}

refused-none : (rule : Rule) (found : Search) (u : Unit {0}) → Ok u ≡ refuse_at rule found → found ≡ None
refused-none rule None u e = refl
refused-none rule (Some n) u e = cc

pub kept_of : (l : Language) (t : List ℕ) (misshapen hidden : Search) (u : Unit {0}) → Found l t misshapen hidden
    → Ok u ≡ refuse_at Rule.Shape misshapen → Kept l t
kept_of l t misshapen hidden u h e = record {
  formed = h.formed;
  shapes = h.shapes ∙ refused-none Rule.Shape misshapen u e;
}

-- ---- rules 6 to 8, of which the first that refuses says so
module _ (l : Language) (t : List ℕ) (misshapen hidden : Search)
    (shapes : lowest_record t (shape_fault l t) ≡ misshapen) where
  pub shape-refused : (r : Refusal) → Err r ≡ refuse_at Rule.Shape misshapen → Err r ≡ from_shapes l t
  unfolding from_shapes
  shape-refused r e =
      ap (λ (c : Checked). c otherwise from_scopes l t) (e ∙ ap (refuse_at Rule.Shape) (sym shapes))

  module _ (u : Unit {0}) (none : Ok u ≡ refuse_at Rule.Shape misshapen) where
    scopes-next : from_scopes l t ≡ from_shapes l t
    unfolding from_shapes
    scopes-next = ap (λ (c : Checked). c otherwise from_scopes l t) (none ∙ ap (refuse_at Rule.Shape) (sym shapes))

    module _ (scopes : lowest_record t (scope_fault l t) ≡ hidden) where
      pub scope-refused : (r : Refusal) → Err r ≡ refuse_at Rule.Scope hidden → Err r ≡ from_shapes l t
      unfolding from_scopes
      scope-refused r e =
          ap (λ (c : Checked). c otherwise last_rule l t) (e ∙ ap (refuse_at Rule.Scope) (sym scopes)) ∙ scopes-next

      pub level-next : (v : Unit {0}) → Ok v ≡ refuse_at Rule.Scope hidden → last_rule l t ≡ from_shapes l t
      unfolding from_scopes
      level-next v e =
          ap (λ (c : Checked). c otherwise last_rule l t) (e ∙ ap (refuse_at Rule.Scope) (sym scopes)) ∙ scopes-next

-- ---- rules 3 to 5, tried record by record
accepted : (n : ℕ) (said : Result Unit Rule) (u : Unit {0}) → Ok u ≡ refused_at n said → said ≡ Ok tt
accepted n (Ok v) u e = refl
accepted n (Err rule) u e = cc

found-here : (n : ℕ) (said : Result Unit Rule) (r : Refusal) → Err r ≡ refused_at n said → is_err said ≡ true
found-here n (Ok u) r e = cc
found-here n (Err rule) r e = refl

module _ (l : Language) (t : List ℕ) where
  abbrev faulty : ℕ → Bool
  faulty i = is_err (record_fault l t i)

  module _ (n : ℕ) (before : Before l t n) where
    none_before : (i : ℕ) → 1 ≤ i → i < n → faulty i ≡ false
    none_before i a b = ap is_err (before i a b)

    pub record-refused : (r : Refusal) → 1 ≤ n → n ≤ record_count t → Err r ≡ refused_at n (record_fault l t n)
        → Err r ≡ from_records l t
    unfolding from_records
    record-refused r a b e =
        ap (λ (c : Checked). c otherwise from_shapes l t) e
        ∙ sym (ap (λ (s : Search). refuse_by (record_fault l t) s otherwise from_shapes l t)
        (lowest-at faulty 1 (record_count t) n a (omega arith) (found-here n (record_fault l t n) r e) none_before))

    pub record-kept : (u : Unit {0}) → Ok u ≡ refused_at n (record_fault l t n) → Before l t (n + 1)
    record-kept u e i a b = go (dec_lt i n)
      where
        go : Dec (i < n) → record_fault l t i ≡ Ok tt
        go (yes h) = before i a h
        go (no h) =
            let same : n ≡ i = omega arith in
            subst (λ (k : ℕ). record_fault l t k ≡ Ok tt) same (accepted n (record_fault l t n) u e)

    pub records-kept : record_count t < n → Sized l t → Formed l t
    records-kept h sized = record {
      sized = sized;
      records = lowest-nothing faulty 1 (record_count t) (λ i a b. none_before i a (omega arith));
    }

  pub shapes-next : Formed l t → from_shapes l t ≡ from_records l t
  unfolding from_records
  shapes-next h = sym (ap (λ (s : Search). refuse_by (record_fault l t) s otherwise from_shapes l t) h.records)

-- ---- the whole
abbrev in_order : Bool → Bool → Checked → Checked
in_order p q r = refuse_if Rule.Length p otherwise refuse_if Rule.Count q otherwise r

check-as : (l : Language) (t : List ℕ) → check l t ≡ in_order (length_fault t) (count_fault l t) (from_records l t)
unfolding check from_records from_shapes from_scopes
check-as l t = refl

pub check-empty : (l : Language) (t : List ℕ) → length t ≡ 0 → refused Rule.Length 0 ≡ check l t
check-empty l t e =
    sym (check-as l t
    ∙ (λ i. in_order (eq-eqb (length t) 0 e i || not (eqb (length t % 16) 0)) (count_fault l t) (from_records l t)))

pub check-uneven : (l : Language) (t : List ℕ) → (length t ≡ 0 → ⊥) → (length t % 16 ≡ 0 → ⊥)
    → refused Rule.Length 0 ≡ check l t
check-uneven l t d e =
    sym (check-as l t
    ∙ (λ i. in_order (ne_eqb (length t) 0 d i || not (ne_eqb (length t % 16) 0 e i)) (count_fault l t)
    (from_records l t)))

pub check-many : (l : Language) (t : List ℕ) → (length t ≡ 0 → ⊥) → length t % 16 ≡ 0 → record_limit l < record_count t
    → refused Rule.Count 0 ≡ check l t
check-many l t d e h =
    sym (check-as l t
    ∙ (λ i. in_order (ne_eqb (length t) 0 d i || not (eq-eqb (length t % 16) 0 e i))
    (lt-ltb (record_limit l) (record_count t) h i) (from_records l t)))

pub check-rest : (l : Language) (t : List ℕ) → (length t ≡ 0 → ⊥) → length t % 16 ≡ 0 → record_count t ≤ record_limit l
    → from_records l t ≡ check l t
check-rest l t d e h =
    sym (check-as l t
    ∙ (λ i. in_order (ne_eqb (length t) 0 d i || not (eq-eqb (length t % 16) 0 e i))
    (le-ltb (record_limit l) (record_count t) h i) (from_records l t)))

pub limit-most : (l : Language) → record_limit l ≤ target_limit
limit-most source = omega arith
limit-most target = omega arith

-- a record that is found stands in the table
pub found-fits : (l : Language) (t : List ℕ) (p : ℕ → Bool) (found : Search) → Sized l t → lowest_record t p ≡ found
    → IfSome found (λ n. n ≤ target_limit)
found-fits l t p None sized e = tt
found-fits l t p (Some n) sized e =
    let h : (1 ≤ n) × (n < 1 + record_count t) × (p n ≡ true) =
    subst (Outcome p 1 (record_count t)) e (lowest-outcome p 1 (record_count t)) in
    omega (arith, h.1, sized.few, limit-most l)
