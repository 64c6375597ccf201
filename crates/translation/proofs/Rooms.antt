-- Where the output holds a tree, it holds each child behind the ones before it, and then the tree's own record.
use Prim.Native.Nat.{ℕ}
use native.Mathlib.Omega.{arith}
use mathlib.Core.Path.{◌≡◌, ap}
use lib.IntN.{ℤ}
use Rattle.rules.specs.Emission.{RecordTree, node, tree_size}
use Rattle.translation_emission.specs.declared.Output.{Output}
use Rattle.translation_emission.specs.Emission.{RoomFor, Room, Emitted}
use Rattle.translation_emission.proofs.Emitting.{emitted-length}

module _ (o : Output) {w a b c : RecordTree} {k m x : ℕ} {z : ℤ} (tree : w ≡ node k m z x a b c) (room : Room o w) where
  pub room-a : Room o a
  room-a = omega (arith, ap tree_size tree)

  module _ {o₁ : Output} (A : Emitted o a o₁) where
    pub room-b : Room o₁ b
    room-b = omega (arith, ap tree_size tree, A.count, emitted-length room-a A)

    module _ {o₂ : Output} (B : Emitted o₁ b o₂) where
      pub room-c : Room o₂ c
      room-c =
          omega (arith, ap tree_size tree, A.count, B.count, emitted-length room-a A, emitted-length room-b B)

      pub room-own : {o₃ : Output} → Emitted o₂ c o₃ → RoomFor o₃ 1
      room-own C =
          omega (
            arith,
            ap tree_size tree,
            A.count,
            B.count,
            C.count,
            emitted-length room-a A,
            emitted-length room-b B,
            emitted-length room-c C,
          )
