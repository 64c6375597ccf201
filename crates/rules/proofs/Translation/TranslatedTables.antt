-- The translation of a table whose tree is sound: accepted, and read back as the translated tree.
use Prim.Native.Nat.{ℕ, ◌≤◌}
use mathlib.Core.Path.{◌≡◌}
use mathlib.Core.List.{List}
use Rattle.std.specs.Prelude.{Ok}
use Rattle.rules.specs.Records.{record_count}
use Rattle.rules.specs.Kinds.{target}
use Rattle.rules.specs.Checker.{check}
use Rattle.rules.specs.Nodes.{source_program, target_program}
use Rattle.rules.specs.Emission.{statement_tree, tree_size}
use Rattle.rules.specs.Translation.{translate, translated_records, translation}
use Rattle.rules.proofs.Acceptance.Sound.{start_scope, SoundStatement}
use Rattle.rules.proofs.Translation.SoundTranslation.{sound-translation}
use Rattle.rules.proofs.Translation.RecordBytes.{AllBytes}
use Rattle.rules.proofs.Translation.TargetFitting.{statement-fits}
use Rattle.rules.proofs.Translation.EmittedBytes.{emitted-count, emitted-bytes}
use Rattle.rules.proofs.Translation.ReadBack.{program-back}
use Rattle.rules.proofs.Translation.TargetAccepted.{target-accepted}

abbrev pub translated_size : List ℕ → ℕ
translated_size t = tree_size (statement_tree (translate (source_program t)))

pub translation-count : (t : List ℕ) → record_count (translation t) ≡ translated_size t
unfolding translated_records
translation-count t = emitted-count (statement_tree (translate (source_program t)))

module _ (t : List ℕ) (sound : SoundStatement (source_program t) start_scope) (small : translated_size t ≤ 4096) where
  pub translation-accepted : check target (translation t) ≡ Ok tt
  unfolding translated_records
  translation-accepted =
      target-accepted (translate (source_program t)) (sound-translation (source_program t) start_scope sound) small

  pub translation-program : target_program (translation t) ≡ translate (source_program t)
  unfolding translated_records
  translation-program =
      program-back (translate (source_program t)) (sound-translation (source_program t) start_scope sound) small

  pub translation-bytes : AllBytes (translation t)
  unfolding translated_records
  translation-bytes =
      emitted-bytes target (statement_tree (translate (source_program t))) start_scope
      (statement-fits (translate (source_program t)) start_scope (sound-translation (source_program t) start_scope sound))
      small
