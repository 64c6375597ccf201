-- The translation of an accepted table: its records are read back, and their lines fit.
use Prim.Native.Nat.{ℕ, suc, ◌+◌, ◌*◌, ◌≤◌}
use native.Mathlib.Omega.{arith}
use mathlib.Core.Path.{◌≡◌, refl, ap, ◌∙◌}
use mathlib.Core.Bool.{false}
use mathlib.Core.List.{List}
use borrow.Author.Tests.{le-ltb}
use lib.Dec.{ltb}
use lib.ListN.{length, take}
use lib.Seq.{take-append_seam}
use Rattle.rules.specs.Words.{put, tabulate}
use Rattle.rules.specs.Records.{record_count, record_at}
use Rattle.rules.specs.Kinds.{source, target}
use Rattle.rules.specs.Checker.{check}
use Rattle.rules.specs.declared.{Answer.Answer}
use Rattle.rules.specs.Nodes.{source_program}
use Rattle.rules.specs.Emission.{statement_tree, tree_size}
use Rattle.rules.specs.Translation.{translate, translated_records, translation}
use Rattle.rules.specs.Listing.{record_lines}
use Rattle.rules.specs.Answers.{translated_by}
use Rattle.rules.proofs.Lists.WordLaws.{length-put}
use Rattle.rules.proofs.Acceptance.Sound.{start_scope}
use Rattle.rules.proofs.Acceptance.AcceptedPrograms.{accepted-program}
use Rattle.rules.proofs.Translation.SoundTranslation.{sound-translation}
use Rattle.rules.proofs.Acceptance.Acceptance.{accepted-says}
use Rattle.rules.proofs.Translation.SizeBound.{size-bound}
use Rattle.rules.proofs.Translation.EmissionLaws.{length-emit}
use Rattle.rules.proofs.Translation.TargetFitting.{statement-fits}
use Rattle.rules.proofs.Translation.EmittedBytes.{emit-fits}
use Rattle.rules.proofs.Translation.RecordBytes.{AllFit, no_record, table-record, table-count, table-length}
use Rattle.rules.proofs.Lists.Rows.{tabulate-list}
use Rattle.listing_text.specs.Text.{records_of, table_lines, translated_lines, longest_text}
use Rattle.listing_text.proofs.LongestText.{length-lines}
use Rattle.std.specs.Prelude.{Ok, Err}
use Rattle.rules.specs.Types.{rule_number}
use Rattle.rules.specs.declared.Rule.{Rule}
use Rattle.translation.specs.Answers.{translated_answer}

rule_some : (rule : Rule) → 1 ≤ rule_number rule
rule_some Rule.Length = omega arith
rule_some Rule.Count = omega arith
rule_some Rule.Kind = omega arith
rule_some Rule.Field = omega arith
rule_some Rule.Child = omega arith
rule_some Rule.Shape = omega arith
rule_some Rule.Scope = omega arith
rule_some Rule.Level = omega arith
rule_some Rule.Inputs = omega arith
rule_some Rule.Output = omega arith
rule_some Rule.Memory = omega arith
rule_some Rule.Observation = omega arith

module _ (t : List ℕ) (a : check source t ≡ (Ok tt)) where
  tree-small : tree_size (statement_tree (translate (source_program t))) ≤ 3584
  tree-small = omega (arith, size-bound t a, (accepted-says source t a).not-too-many)

  -- "At most 14 target records come from each source record."
  pub few-records : length (translated_records t) ≤ 3584
  unfolding translated_records
  few-records = omega (arith, length-emit (statement_tree (translate (source_program t))) 0, tree-small)

  records-fit : AllFit (translated_records t)
  unfolding translated_records
  records-fit =
      emit-fits target (statement_tree (translate (source_program t))) 0 start_scope
      (statement-fits (translate (source_program t)) start_scope
      (sound-translation (source_program t) start_scope (accepted-program source t a).last.sound))
      (omega (arith, tree-small))

  pub lines_fit : length (translated_lines t) ≤ longest_text
  lines_fit = omega (arith, few-records, length-lines 1 (translated_records t) (omega (arith, few-records)) records-fit)

  pub records-back : records_of (translation t) ≡ translated_records t
  records-back =
      ap (λ (n : ℕ). tabulate 0 n (λ i. record_at (translation t) (suc i))) (table-count (translated_records t))
      ∙ tabulate-list (length (translated_records t)) (λ i. record_at (translation t) (suc i)) (translated_records t)
      no_record
      refl (λ j l. table-record (translated_records t) j records-fit l)

  -- what the translator hands back, in an output that is long enough
  module _ (o : List ℕ) (room : 57344 ≤ length o) where
    size : length (translation t) ≡ 16 * length (translated_records t)
    size = table-length (translated_records t)

    enough : ltb (length o) (length (translation t)) ≡ false
    enough = le-ltb (length o) (length (translation t)) (omega (arith, size, few-records))

    pub never-refused : (rule : Rule) → translated_answer (Err rule) ≡ (translated_by (Ok tt) t o).answer → ⊥
    never-refused rule e =
        let none : (translated_by (Ok tt) t o).answer.number ≡ 0 = rw (enough, translated_by) in
        let some = rule_some rule in
        let same = ap (λ (x : Answer). x.number) e in
        absurd (omega arith)

    module _ (m : List ℕ) (r : ℕ) (e : translated_answer (Ok r) ≡ (translated_by (Ok tt) t o).answer)
        (f : m ≡ (translated_by (Ok tt) t o).out) where
      pub record-count : r * 16 ≡ length (translation t)
      record-count =
          let k : (translated_by (Ok tt) t o).answer.«record» ≡ record_count (translation t) =
          rw (enough, translated_by) in
          omega (arith, ap (λ (x : Answer). x.«record») e, k, table-count (translated_records t), size)

      bytes-put : m ≡ put o 0 (translation t)
      bytes-put = f ∙ rw (enough, translated_by)

      pub inside : r * 16 ≤ length m
      inside =
          let small : 0 + length (translation t) ≤ length o = omega (arith, size, few-records) in
          omega (arith, record-count, ap length bytes-put, length-put o (translation t) 0 small)

      pub bytes_back : take (r * 16) m ≡ translation t
      bytes_back =
          ap (λ (n : ℕ). take n m) record-count
          ∙ ap (take (length (translation t))) bytes-put
          ∙ take-append_seam (translation t) _

      pub lines-back : table_lines (take (r * 16) m) ≡ translated_lines t
      lines-back = ap table_lines bytes_back ∙ ap (record_lines 1) records-back
