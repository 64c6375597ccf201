-- A table is accepted just when it keeps every rule, and just then the checker's answer is 0.
use Prim.Native.Nat.{ℕ, ◌≤◌}
use native.Mathlib.Omega.{arith}
use mathlib.Core.Path.{◌≡◌, refl, sym, ◌∙◌, subst}
use mathlib.Core.Bool.{Bool, true, false, true≢false}
use mathlib.Core.List.{List}
use Rattle.std.specs.Prelude.{None, Ok, Some, is_err, Err, Result}
use Rattle.rules.specs.Types.{Search, Checked, Rule, rule_number}
use Rattle.rules.specs.Records.{record_count}
use Rattle.rules.specs.Kinds.{Language}
use Rattle.rules.specs.Checker.{length_fault, count_fault, record_fault, shape_fault, scope_fault}
use Rattle.rules.specs.Checker.{lowest_record, refuse_if, refuse_by, refuse_at, ◌otherwise◌, last_rule, check}
use Rattle.rules.specs.Answers.{refusals, checked_answer}
use Rattle.rules.proofs.Lists.Among.{Among, among-not}
use Rattle.rules.proofs.Lists.SearchLaws.{lowest-nothing, Outcome, lowest-outcome}
use Rattle.rules.proofs.Acceptance.ParentLaws.{Passed}
use Rattle.rules.proofs.Acceptance.SaidLaws.{err-is-not-ok, kept-no-err, no-err-kept}
use Rattle.rules.specs.Checker.{refused_at}

-- no record fails a test
pub none-fails : (t : List ℕ) (p : ℕ → Bool) → ((n : ℕ) → 1 ≤ n → n ≤ record_count t → p n ≡ false)
    → lowest_record t p ≡ None
none-fails t p h = lowest-nothing p 1 (record_count t) (λ n a b. h n a (omega arith))

pub each-passes : (t : List ℕ) (p : ℕ → Bool) → lowest_record t p ≡ None
    → (n : ℕ) → 1 ≤ n → n ≤ record_count t → p n ≡ false
each-passes t p e n a b =
    (subst (Outcome p 1 (record_count t)) e (lowest-outcome p 1 (record_count t))) n a (omega arith)

-- rules 1 to 7
pub record Keeps (l : Language) (t : List ℕ) : Type 0 where
  pub length-kept : length_fault t ≡ false
  pub count_kept : count_fault l t ≡ false
  pub passed : Passed l t
  pub scope_kept : (n : ℕ) → 1 ≤ n → n ≤ record_count t → scope_fault l t n ≡ false

-- the rules in their order
abbrev in_order : Bool → Bool → Search → (ℕ → Result Unit Rule) → Search → Search → Checked → Checked
in_order p q s f u v r =
    refuse_if Rule.Length p otherwise refuse_if Rule.Count q otherwise refuse_by f s otherwise refuse_at Rule.Shape u
    otherwise refuse_at Rule.Scope v otherwise r

abbrev record_search : Language → List ℕ → Search
record_search l t = lowest_record t (λ n. is_err (record_fault l t n))

check-in-order : (l : Language) (t : List ℕ)
    → check l t ≡ in_order (length_fault t) (count_fault l t) (record_search l t) (record_fault l t)
    (lowest_record t (shape_fault l t)) (lowest_record t (scope_fault l t)) (last_rule l t)
unfolding check
check-in-order l t = refl

pub check-kept : (l : Language) (t : List ℕ) → Keeps l t → check l t ≡ last_rule l t
check-kept l t h =
    let records : record_search l t ≡ None =
    none-fails t (λ n. is_err (record_fault l t n))
    (λ n a b. kept-no-err (h.passed.records n a b)) in
    let shapes : lowest_record t (shape_fault l t) ≡ None = none-fails t (shape_fault l t) h.passed.shape in
    let scopes : lowest_record t (scope_fault l t) ≡ None = none-fails t (scope_fault l t) h.scope_kept in
    check-in-order l t
    ∙ (λ i. in_order (h.length-kept i) (h.count_kept i) (records i) (record_fault l t) (shapes i) (scopes i)
    (last_rule l t))

-- and back
record AllKept (p q : Bool) (s u v : Search) (r : Checked) : Type 0 where
  length-is : p ≡ false
  count-is : q ≡ false
  records-are : s ≡ None
  shapes-are : u ≡ None
  scopes-are : v ≡ None
  last-is : r ≡ Ok tt

-- f refuses the record that its search finds
found : (p q : Bool) (s : Search) (f : ℕ → Result Unit Rule) (u v : Search) (r : Checked)
    → ((n : ℕ) → s ≡ Some n → is_err (f n) ≡ true) → in_order p q s f u v r ≡ Ok tt → AllKept p q s u v r
found true q s f u v r g e = absurd (err-is-not-ok e)
found false true s f u v r g e = absurd (err-is-not-ok e)
found false false (Some n) f u v r g e = go (f n) (g n refl) e
  where
    go : (w : Result Unit Rule) → is_err w ≡ true → (refused_at n w otherwise refuse_at Rule.Shape u
        otherwise refuse_at Rule.Scope v otherwise r) ≡ Ok tt → AllKept false false (Some n) u v r
    go (Ok y) h e₁ = absurd (true≢false (sym h))
    go (Err rule) h e₁ = absurd (err-is-not-ok e₁)
found false false None f (Some n) v r g e = absurd (err-is-not-ok e)
found false false None f None (Some n) r g e = absurd (err-is-not-ok e)
found false false None f None None r g e = record {
  length-is = refl;
  count-is = refl;
  records-are = refl;
  shapes-are = refl;
  scopes-are = refl;
  last-is = e;
}

accepted-found : (l : Language) (t : List ℕ) → check l t ≡ Ok tt
    → AllKept (length_fault t) (count_fault l t) (record_search l t) (lowest_record t (shape_fault l t))
    (lowest_record t (scope_fault l t)) (last_rule l t)
accepted-found l t e =
    let p : ℕ → Bool = λ n. is_err (record_fault l t n) in
    found _ _ _ (record_fault l t) _ _ _
    (λ n s. (subst (Outcome p 1 (record_count t)) s (lowest-outcome p 1 (record_count t))).2)
    (sym (check-in-order l t) ∙ e)

pub accepted-keeps : (l : Language) (t : List ℕ) → check l t ≡ Ok tt → Keeps l t
accepted-keeps l t e =
    let h = accepted-found l t e in
    record {
      length-kept = h.length-is;
      count_kept = h.count-is;
      passed = record {
        records = λ n a b. no-err-kept (record_fault l t n)
            (each-passes t (λ n. is_err (record_fault l t n)) h.records-are n a b);
        shape = each-passes t (shape_fault l t) h.shapes-are;
      };
      scope_kept = each-passes t (scope_fault l t) h.scopes-are;
    }

pub accepted-last : (l : Language) (t : List ℕ) → check l t ≡ Ok tt → last_rule l t ≡ Ok tt
accepted-last l t e = (accepted-found l t e).last-is

-- a refusal has one of the numbers of refusals
abbrev pub Numbered : Checked → Type 0
Numbered (Ok u) = Unit {0}
Numbered (Err r) = Among refusals (rule_number r.rule)

rule-numbered : (rule : Rule) → Among refusals (rule_number rule)
rule-numbered Rule.Length = refl
rule-numbered Rule.Count = refl
rule-numbered Rule.Kind = refl
rule-numbered Rule.Field = refl
rule-numbered Rule.Child = refl
rule-numbered Rule.Shape = refl
rule-numbered Rule.Scope = refl
rule-numbered Rule.Level = refl
rule-numbered Rule.Inputs = refl
rule-numbered Rule.Output = refl
rule-numbered Rule.Memory = refl
rule-numbered Rule.Observation = refl

pub check-numbered : (l : Language) (t : List ℕ) → Numbered (check l t)
check-numbered l t = go (check l t)
  where
    go : (c : Checked) → Numbered c
    go (Ok u) = tt
    go (Err r) = rule-numbered r.rule

pub zero-accepts : (l : Language) (t : List ℕ) → (checked_answer (check l t)).number ≡ 0 → check l t ≡ Ok tt
zero-accepts l t e = go (check l t) (check-numbered l t) e
  where
    go : (c : Checked) → Numbered c → (checked_answer c).number ≡ 0 → c ≡ Ok tt
    go (Ok u) h e₁ = refl
    go (Err r) h e₁ = absurd (among-not refusals (rule_number r.rule) 0 refl h e₁)
