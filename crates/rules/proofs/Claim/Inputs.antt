-- Inputs that are not refused as 9: 1 to 256 numbers.
use Prim.Native.Nat.{ℕ, zero, suc, ◌/◌, ◌%◌, ◌≤◌}
use native.Mathlib.Omega.{arith}
use mathlib.Core.Bool.{false, not, ◌||◌}
use mathlib.Core.List.{List}
use mathlib.Core.Path.{◌≡◌, refl, ap}
use borrow.Author.Tests.{eqb-true, eqb-false, ltb-false, not-false}
use lib.Dec.{eqb, ltb}
use lib.ListN.{length, drop}
use Rattle.rules.specs.Sizes.{input_limit}
use Rattle.rules.specs.Checker.{inputs_fault}
use Rattle.rules.specs.Answers.{numbers_in, inputs_of}
use Rattle.rules.proofs.Lists.BooleanLaws.{neither}

length-numbers : (n : ℕ) (i : List ℕ) → length (numbers_in n i) ≡ n
length-numbers zero i = refl
length-numbers (suc n) i = ap suc (length-numbers n (drop 8 i))

pub inputs-length : (i : List ℕ) → length (inputs_of i) ≡ length i / 8
inputs-length i = length-numbers (length i / 8) i

module _ (i : List ℕ) (e : inputs_fault i ≡ false) where
  tests : ((not (eqb (length i % 8) 0) || eqb (length i) 0) ≡ false) × (ltb input_limit (length i / 8) ≡ false)
  tests = neither (not (eqb (length i % 8) 0) || eqb (length i) 0) (ltb input_limit (length i / 8)) e

  pub inputs-few : length (inputs_of i) ≤ input_limit
  inputs-few = omega (arith, inputs-length i, ltb-false input_limit (length i / 8) tests.1)

  pub inputs-some : 1 ≤ length (inputs_of i)
  inputs-some =
      let front = neither (not (eqb (length i % 8) 0)) (eqb (length i) 0) tests.0 in
      omega (
        arith,
        inputs-length i,
        eqb-true (length i % 8) 0 (not-false _ front.0),
        eqb-false (length i) 0 front.1,
      )
