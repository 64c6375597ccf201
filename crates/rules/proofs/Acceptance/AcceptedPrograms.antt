-- What acceptance gives the rest of the code, in either language, as one theorem.
use Prim.Native.Nat.{ℕ, ◌%◌, ◌≤◌}
use native.Mathlib.Nat.{le_refl}
use mathlib.Core.List.{List, ◌++◌}
use mathlib.Core.Path.{◌≡◌, sym, ap, ◌∙◌, subst}
use lib.ListN.{length}
use Rattle.std.specs.Prelude.{Ok}
use Rattle.rules.specs.Records.{record_count}
use Rattle.rules.specs.Kinds.{Language, source, target, Sort, statement, record_limit}
use Rattle.rules.specs.Checker.{check}
use Rattle.rules.specs.Nodes.{NodeOf, sort_of_node, node_at, HasSort}
use Rattle.rules.proofs.Acceptance.Sound.{start_scope}
use Rattle.rules.proofs.Acceptance.Acceptance.{accepted-says}
use Rattle.rules.proofs.Acceptance.AcceptedTrees.{accepted-last}
use Rattle.rules.proofs.Acceptance.KindViews.{form_at, KindOf}
use Rattle.rules.proofs.Acceptance.FormLaws.{node_as}
use Rattle.rules.proofs.Acceptance.RecordScopes.{scope_at, level_at}
use Rattle.rules.proofs.Acceptance.Readiness.{SoundAs, Ready, sound-last}
use Rattle.rules.proofs.Acceptance.SoundSource.{source-arm}
use Rattle.rules.proofs.Acceptance.SoundTargets.{target-arm}
use Rattle.rules.proofs.Acceptance.Padding.{node-padded}
use Rattle.rules.proofs.Runs.StatementArms.{SoundIn}

-- record n is a statement to run from the start: every variable that it meets is in scope, every temporary is below
-- 64, and every number in its range
pub record Runs (l : Language) (t : List ℕ) (n : ℕ) : Type 0 where
  pub is : HasSort l statement t n
  pub sound : SoundIn l statement t n start_scope

pub record AcceptedProgram (l : Language) (t : List ℕ) : Type 0 where
  pub whole : length t % 16 ≡ 0
  pub not-too-many : record_count t ≤ record_limit l
  pub last : Runs l t (record_count t)

sound-arm : (l : Language) (t : List ℕ) (n : ℕ) (s : Sort) (k : ℕ) → KindOf l s k → Ready l t n (form_at l k)
    → SoundAs l s (node_as l k t n) (scope_at l t n) (level_at l t n)
sound-arm source t n s k v r = source-arm t n v r
sound-arm target t n s k v r = target-arm t n v r

-- a statement has no level
without-level : (l : Language) (x : NodeOf l) (v : ℕ) → SoundAs l statement x start_scope v
    → SoundAs l statement x start_scope 0
without-level source x v h = h
without-level target x v h = h

pub accepted-program : (l : Language) (t : List ℕ) → check l t ≡ Ok tt → AcceptedProgram l t
accepted-program l t h =
    let a = accepted-says l t h in
    record {
      whole = a.whole;
      not-too-many = a.not-too-many;
      last = record {
        is = accepted-last l t a;
        sound =
            without-level l (node_at l t (record_count t)) (level_at l t (record_count t))
            (sound-last l t a (sound-arm l t));
      };
    }

-- the same with bytes behind the table
pub padded-program : (l : Language) (t z : List ℕ) → check l t ≡ Ok tt → Runs l (t ++ z) (record_count t)
padded-program l t z h =
    let r = (accepted-program l t h).last in
    let e = node-padded t z l (record_count t) (le_refl (record_count t)) in
    record {
      is = ap (sort_of_node l) e ∙ r.is;
      sound = subst (λ (x : NodeOf l). SoundAs l statement x start_scope 0) (sym e) r.sound;
    }
