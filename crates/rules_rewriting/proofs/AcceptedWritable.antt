-- The program of an accepted source table has records: its queries and operators are those of its kinds.
use Prim.Native.Nat.{ℕ, zero, suc, ◌≤◌, ◌<◌}
use native.Mathlib.Omega.{arith}
use mathlib.Core.Bool.{true, ◌||◌}
use mathlib.Core.List.{List}
use mathlib.Core.Path.{◌≡◌, refl, subst}
use borrow.Author.Tests.{leb-true}
use lib.Dec.{leb, eqb}
use Rattle.std.specs.Prelude.{Ok}
use Rattle.rules.specs.Records.{record_count, kind_of, mark_of, child_a, child_b, child_c}
use Rattle.rules.specs.Kinds.{source, Sort, expression, place, term, predicate, statement, sort_number, child}
use Rattle.rules.specs.Kinds.{between}
use Rattle.rules.specs.Checker.{check}
use Rattle.rules.specs.Nodes.{operator_of, SourceNode, node_sort, as_term, as_predicate, source_statement, node_at}
use Rattle.rules.specs.Nodes.{source_program}
use Rattle.rules.specs.Emission.{operator_number}
use Rattle.rules.proofs.Acceptance.Acceptance.{accepted-says}
use Rattle.rules.proofs.Acceptance.AcceptedTrees.{accepted-last}
use Rattle.rules.proofs.Acceptance.KindViews.{form_at, found_at, and_split, SourceKind, literal, read, address}
use Rattle.rules.proofs.Acceptance.KindViews.{operation}
use Rattle.rules.proofs.Acceptance.KindViews.{shifted, variable, pointed, value, base, offset, block_length}
use Rattle.rules.proofs.Acceptance.KindViews.{combined}
use Rattle.rules.proofs.Acceptance.KindViews.{valid, initialised, compared, negated, both, either, skip, assign}
use Rattle.rules.proofs.Acceptance.KindViews.{new}
use Rattle.rules.proofs.Acceptance.KindViews.{free, sequence, branch, while, let_in, assert}
use Rattle.rules.proofs.Acceptance.FormLaws.{FieldHolds, FormHolds, node_as}
use Rattle.rules.proofs.Acceptance.Standing.{stands}
use Rattle.rules.proofs.Acceptance.Readiness.{node-as}
use Rattle.rules_rewriting.proofs.Writable.{WritableTerm, WritablePredicate, Writable}

-- a mark that names an operator of a term, or one of a predicate
term-operator : (m : ℕ) → (between 1 5 m || eqb m 8) ≡ true
    → (between 1 5 (operator_number (operator_of m)) || eqb (operator_number (operator_of m)) 8) ≡ true
term-operator zero h = refl
term-operator (suc zero) h = h
term-operator (suc (suc zero)) h = h
term-operator (suc (suc (suc zero))) h = h
term-operator (suc (suc (suc (suc zero)))) h = h
term-operator (suc (suc (suc (suc (suc zero))))) h = h
term-operator (suc (suc (suc (suc (suc (suc zero)))))) h = h
term-operator (suc (suc (suc (suc (suc (suc (suc zero))))))) h = h
term-operator (suc (suc (suc (suc (suc (suc (suc (suc m)))))))) h = refl

between-most : (low high m : ℕ) → between low high m ≡ true → m ≤ high
between-most low high m h = leb-true m high (and_split (leb low m) (leb m high) h).1

comparison : (m : ℕ) → between 6 7 m ≡ true → between 6 7 (operator_number (operator_of m)) ≡ true
comparison zero h = h
comparison (suc zero) h = h
comparison (suc (suc zero)) h = h
comparison (suc (suc (suc zero))) h = h
comparison (suc (suc (suc (suc zero)))) h = h
comparison (suc (suc (suc (suc (suc zero))))) h = h
comparison (suc (suc (suc (suc (suc (suc zero)))))) h = h
comparison (suc (suc (suc (suc (suc (suc (suc zero))))))) h = h
comparison (suc (suc (suc (suc (suc (suc (suc (suc m)))))))) h =
    absurd (omega (arith, between-most 6 7 (suc (suc (suc (suc (suc (suc (suc (suc m)))))))) h))

abbrev WritableAs : Sort → SourceNode → Type 0
WritableAs expression x = Unit {0}
WritableAs place x = Unit {0}
WritableAs term x = WritableTerm (as_term x)
WritableAs predicate x = WritablePredicate (as_predicate x)
WritableAs statement x = Writable (source_statement x)

module _ (t : List ℕ) (n : ℕ)
    (before : (s : Sort) (x : ℕ) → x < n → node_sort (node_at source t x) ≡ sort_number s
    → WritableAs s (node_at source t x)) where
  under : (s : Sort) (x : ℕ) → FieldHolds source t n (child s) x → WritableAs s (node_at source t x)
  under s x h = before s x h.1 h.2

  writable-arm : {s : Sort} {k : ℕ} → SourceKind s k → FormHolds source t n (form_at source k)
      → WritableAs s (node_as source k t n)
  writable-arm literal h = tt
  writable-arm read h = tt
  writable-arm address h = tt
  writable-arm operation h = tt
  writable-arm shifted h = tt
  writable-arm variable h = tt
  writable-arm pointed h = tt
  writable-arm value h = tt
  writable-arm base h = (refl, under term (child_a t n) h.a)
  writable-arm offset h = (refl, under term (child_a t n) h.a)
  writable-arm block_length h = (refl, under term (child_a t n) h.a)
  writable-arm combined h = (
    term-operator (mark_of t n) h.mark,
    under term (child_a t n) h.a,
    under term (child_b t n) h.b,
  )
  writable-arm valid h = (refl, under term (child_a t n) h.a)
  writable-arm initialised h = (refl, under term (child_a t n) h.a)
  writable-arm compared h = (
    comparison (mark_of t n) h.mark,
    under term (child_a t n) h.a,
    under term (child_b t n) h.b,
  )
  writable-arm negated h = under predicate (child_a t n) h.a
  writable-arm both h = (under predicate (child_a t n) h.a, under predicate (child_b t n) h.b)
  writable-arm either h = (under predicate (child_a t n) h.a, under predicate (child_b t n) h.b)
  writable-arm skip h = tt
  writable-arm assign h = tt
  writable-arm new h = tt
  writable-arm free h = tt
  writable-arm sequence h = (under statement (child_a t n) h.a, under statement (child_b t n) h.b)
  writable-arm branch h = (under statement (child_b t n) h.b, under statement (child_c t n) h.c)
  writable-arm while h = under statement (child_b t n) h.b
  writable-arm let_in h = under statement (child_a t n) h.a
  writable-arm assert h = under predicate (child_a t n) h.a

writable-below : (t : List ℕ) (m : ℕ) (s : Sort) (n : ℕ) → n < m → node_sort (node_at source t n) ≡ sort_number s
    → WritableAs s (node_at source t n)
writable-below t zero s n d e = absurd (omega arith)
writable-below t (suc m) s n d e =
    let w = stands source t n s e in
    subst (WritableAs s) (node-as source t n s w)
    (writable-arm t n (λ r x c. writable-below t m r x (omega arith)) w.kind
    (subst (FormHolds source t n) (found_at source (kind_of t n) w.form w.found) w.holds))

pub accepted-writable : (t : List ℕ) → check source t ≡ Ok tt → Writable (source_program t)
accepted-writable t h =
    writable-below t (suc (record_count t)) statement (record_count t) (omega arith)
    (accepted-last source t (accepted-says source t h))
