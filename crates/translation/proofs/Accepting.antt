-- What an accepted table hands to the translator: a statement to emit, its size, and that its tree is the translation.
use Prim.Native.Nat.{ℕ, suc, ◌*◌, ◌/◌, ◌≤◌, ◌<◌}
use native.Mathlib.Omega.{arith}
use mathlib.Core.Path.{◌≡◌, sym, ap, ◌∙◌}
use mathlib.Core.List.{List}
use mathlib.Core.Bool.{Bool, true, false}
use mathlib.Core.Logic.{inr}
use borrow.Author.Tests.{lt-ltb, le-ltb}
use lib.Dec.{ltb}
use lib.ListN.{length}
use Rattle.rules.specs.Sizes.{target_limit}
use Rattle.rules.specs.Records.{record_count, table_bytes}
use Rattle.rules.specs.Kinds.{source, statement}
use Rattle.rules.specs.Checker.{refuse_if, check}
use Rattle.rules.specs.Nodes.{node_at, source_program}
use Rattle.rules.specs.Trees.{Term, value, asked, combined, Statement}
use Rattle.rules.specs.Trees.{Predicate, holds, compared, negated, both, either}
use Rattle.rules.specs.Trees as tree
use Rattle.rules.specs.Answers.{answer, Translated, translated_as, translated_by}
use Rattle.rules.specs.Words.{put}
use Rattle.rules.specs.Emission.{statement_tree, tree_size, emit}
use Rattle.rules.specs.Translation.{translate, translated_records, translation}
use Rattle.rules.proofs.Acceptance.Sound.{Scope, start_scope, adding, SoundTerm, SoundPredicate, SoundStatement}
use Rattle.rules.proofs.Acceptance.AcceptedPrograms.{AcceptedProgram, accepted-program}
use Rattle.rules.proofs.Translation.SizeBound.{size-bound}
use Rattle.translation_sizes.specs.Trees.{copy_at, Sorted}
use Rattle.rules.specs.declared.Rule.{Rule}
use Rattle.translation_emission.specs.declared.Output.{Output}
use Rattle.translation_emission.specs.Emission.{Room, Emitted}
use Rattle.translation_assertions.specs.Tests.{TermLevels, PredicateLevels}
use Rattle.translation_statements.specs.Statements.{StatementLevels, StatementAt}
use Rattle.translation_emission.proofs.Emitting.{bytes-emit}
use Rattle.rules.proofs.Translation.RecordSizes.{tree-as}
use Rattle.translation.proofs.Compounds.{statement-as}
use Rattle.std.specs.Prelude.{Ok}

term-levels : (x : Term) (ρ : Scope) (v : ℕ) → SoundTerm x ρ v → TermLevels x v
term-levels (value e) ρ v h = h.0
term-levels (asked q x) ρ v h = (h.0, term-levels x ρ (suc v) h.1)
term-levels (combined o x y) ρ v h = (h.0, term-levels x ρ (suc v) h.1, term-levels y ρ (suc (suc v)) h.2)

predicate-levels : (p : Predicate) (ρ : Scope) (v : ℕ) → SoundPredicate p ρ v → PredicateLevels p v
predicate-levels (holds q x) ρ v h = (h.0, term-levels x ρ (suc v) h.1)
predicate-levels (compared o x y) ρ v h = (h.0, term-levels x ρ (suc v) h.1, term-levels y ρ (suc (suc v)) h.2)
predicate-levels (negated p) ρ v h = (h.0, predicate-levels p ρ (suc v) h.1)
predicate-levels (both p q) ρ v h = (h.0, predicate-levels p ρ v h.1, predicate-levels q ρ v h.2)
predicate-levels (either p q) ρ v h = (h.0, predicate-levels p ρ v h.1, predicate-levels q ρ v h.2)

statement-levels : (x : Statement) (ρ : Scope) → SoundStatement x ρ → StatementLevels x
statement-levels (tree.skip s) ρ h = h.1
statement-levels (tree.assign s p e) ρ h = h.0.1
statement-levels (tree.new s p e) ρ h = h.0.1
statement-levels (tree.free s e) ρ h = h.0.1
statement-levels (tree.sequence s a b) ρ h = (h.0.1, statement-levels a ρ h.1, statement-levels b ρ h.2)
statement-levels (tree.branch s e a b) ρ h = (h.0.1, statement-levels a ρ h.2, statement-levels b ρ h.3)
statement-levels (tree.while s e b) ρ h = (h.0.1, statement-levels b ρ h.2)
statement-levels (tree.let_in s x b) ρ h = (h.0.1, statement-levels b (adding ρ x) h.3)
statement-levels (tree.assert s p) ρ h = (h.0.1, predicate-levels p ρ 0 h.1)

-- the translation with its test apart
abbrev into : List ℕ → List ℕ → Bool → Translated
into bytes o b = translated_as (refuse_if Rule.Output b) bytes o

module _ (t : List ℕ) (a : check source t ≡ (Ok tt)) where
  program : AcceptedProgram source t
  program = accepted-program source t a

  pub accepted-statement : StatementAt t (record_count t)
  accepted-statement =
      statement-as (node_at source t (record_count t)) program.last.is
      (statement-levels (source_program t) start_scope program.last.sound)

  pub accepted-tree : statement_tree (translate (source_program t)) ≡ copy_at t (record_count t)
  accepted-tree =
      tree-as statement (node_at source t (record_count t)) 0 0 program.last.is

  pub accepted-size : tree_size (copy_at t (record_count t)) ≤ target_limit
  accepted-size =
      omega (arith, size-bound t a, ap tree_size accepted-tree, program.not-too-many)

  pub accepted-bytes : translation t ≡ table_bytes (emit (copy_at t (record_count t)) 0)
  unfolding translated_records
  accepted-bytes = ap (λ w. table_bytes (emit w 0)) accepted-tree

  pub accepted-sorted : Sorted t (record_count t)
  accepted-sorted = let e = program.last.is in inr (omega arith)

  translation-length : length (translation t) ≡ 16 * tree_size (copy_at t (record_count t))
  translation-length = ap length accepted-bytes ∙ bytes-emit (copy_at t (record_count t)) 0

  pub too_short : (o : List ℕ) → length o < 16 * tree_size (copy_at t (record_count t))
      → (answer 20 0 0 0 ≡ (translated_by (Ok tt) t o).answer) × (o ≡ (translated_by (Ok tt) t o).out)
  too_short o h =
      let l = translation-length in
      let e : ltb (length o) (length (translation t)) ≡ true = lt-ltb (length o) (length (translation t))
      (omega arith) in
      let f : into (translation t) o true ≡ translated_by (Ok tt) t o = ap (into (translation t) o) (sym e) in
      (ap (λ (x : Translated). x.answer) f, ap (λ (x : Translated). x.out) f)

  pub long-enough : (o o' : Output) → o.count ≡ 0 → Room o (copy_at t (record_count t))
      → Emitted o (copy_at t (record_count t)) o'
      → (answer 0 o'.count 0 0 ≡ (translated_by (Ok tt) t o.bytes.now).answer)
      × (o'.bytes.now ≡ (translated_by (Ok tt) t o.bytes.now).out)
  long-enough o o' first h w =
      let l = translation-length in
      let c = w.count in
      let e : ltb (length o.bytes.now) (length (translation t)) ≡ false = le-ltb (length o.bytes.now)
      (length (translation t)) (omega arith) in
      let k : o'.count ≡ length (translation t) / 16 = omega arith in
      let f : into (translation t) o.bytes.now false
      ≡ translated_by (Ok tt) t o.bytes.now = ap (into (translation t) o.bytes.now) (sym e) in (
        ap (λ (j : ℕ). answer 0 j 0 0) k ∙ ap (λ (x : Translated). x.answer) f,
        w.bytes
            ∙ ap (λ (n : ℕ). put o.bytes.now (16 * n) (table_bytes (emit (copy_at t (record_count t)) n))) first
            ∙ ap (put o.bytes.now 0) (sym accepted-bytes) ∙ ap (λ (x : Translated). x.out) f,
      )
