-- The parts of a tree behind one another: the room that each finds, and what they are together.
use Prim.Native.Nat.{ℕ, suc, ◌*◌, ◌<◌}
use native.Mathlib.Omega.{arith}
use mathlib.Core.Path.{◌≡◌, refl}
use lib.IntN.{pos}
use Rattle.rules.specs.Emission.{RecordTree, none, node}
use Rattle.translation_emission.specs.declared.Output.{Output}
use Rattle.translation_emission.specs.Emission.{record_of, RoomFor, Room, Pushed, Emitted, sequence_tree}
use Rattle.translation_emission.proofs.Emitting.{emitted-none, emitted-length, emitted-node, Some, some, root-some, field-some}
use Rattle.translation_emission.proofs.Parts.{emitted-sequence}
use Rattle.translation_assertions.specs.Tests.{Branched}

-- the measures of the same record and of a child
pub falls_at : {m t : ℕ} → suc m ≡ t → m < t
falls_at e = omega arith

pub falls-to : {a n t : ℕ} → n * 2 ≡ t → a < n → suc (a * 2) < t
falls-to e h = omega arith

-- ---- a sequence
pub record Sequence (o : Output) (s : ℕ) (a b : RecordTree) : Type 0 where
  pub room : Room o (sequence_tree s a b)
  pub some-a : Some a
  pub some-b : Some b

pub first-room : {o : Output} {s : ℕ} {a b : RecordTree} → Sequence o s a b → Room o a
first-room q = omega (arith, q.room)

module _ {o o₁ : Output} {s : ℕ} {a b : RecordTree} (q : Sequence o s a b) (A : Emitted o a o₁) where
  pub second-room : Room o₁ b
  second-room = omega (arith, q.room, A.count, emitted-length (first-room q) A)

  module _ {o₂ : Output} (B : Emitted o₁ b o₂) where
    pub over-room : RoomFor o₂ 1
    over-room =
        omega (arith, q.room, A.count, B.count, emitted-length (first-room q) A, emitted-length second-room B)

    pub whole : {o₃ : Output} → Pushed o₂ (record_of 44 0 o₁.count o₂.count 0 (pos s)) o₃
        → Emitted o (sequence_tree s a b) o₃
    whole h = emitted-sequence s q.some-a q.some-b A B q.room h

-- a 66 over two trees, behind another
module _ {o o₁ : Output} {s m : ℕ} {a b c : RecordTree} (q : Sequence o s a (node 66 m (pos s) 0 none b c))
    (A : Emitted o a o₁) where
  pub yes-room : Room o₁ b
  yes-room = omega (arith, second-room q A)

  module _ {o₂ : Output} (B : Emitted o₁ b o₂) where
    pub no_room : Room o₂ c
    no_room = omega (arith, second-room q A, B.count, emitted-length yes-room B)

    module _ {o₃ : Output} (C : Emitted o₂ c o₃) where
      pub branch-room : RoomFor o₃ 2
      branch-room =
          omega (
            arith,
            q.room,
            A.count,
            B.count,
            C.count,
            emitted-length (first-room q) A,
            emitted-length yes-room B,
            emitted-length no_room C,
          )

      pub emitted-branch : {o₄ : Output} → Some b → Some c → Branched o₃ o₁.count o₂.count m s o₄
          → Emitted o (sequence_tree s a (node 66 m (pos s) 0 none b c)) o₄
      emitted-branch x y h =
          let own = emitted-node 66 m (pos s) 0 (emitted-none o₁) B C (second-room q A) refl (root-some x B)
          (field-some 0 y C) h.own in
          emitted-sequence s q.some-a some A own q.room h.over
