-- 02 §2: "a freed block and an overrun" in small programs, "in program and assertions, alike in a plain and a watched
-- run", and 02 §4: comparing pointers "in expressions and in predicates", with inputs 7, 9: variable 0 points to the two
-- of them.
use Rattle.std.specs.Prelude.{List, [], ◌∷◌, ◌++◌, ℤ, pos}
use Rattle.rules.specs.Records.{Record}
use Rattle.rules.specs.Cases.{of, of_all, literal, five, let_five}

-- variable 0 as a place
abbrev pub variable_zero : Record
variable_zero = of 10 0 0

-- v0 = *(v0 + z)
abbrev pub read_at : ℤ → List Record
read_at z =
    variable_zero ∷ variable_zero ∷ of 2 2 0 ∷ literal z ∷ of 5 3 4 ∷ of 11 5 0 ∷ of 2 6 0 ∷ of 41 1 7 ∷ []

-- *(v0 + z) = 5
abbrev pub store_at : ℤ → List Record
store_at z = variable_zero ∷ of 2 1 0 ∷ literal z ∷ of 5 2 3 ∷ of 11 4 0 ∷ literal (pos 5) ∷ of 41 5 6 ∷ []

-- *(v0 + z) = new 1
abbrev pub new_at : ℤ → List Record
new_at z = variable_zero ∷ of 2 1 0 ∷ literal z ∷ of 5 2 3 ∷ of 11 4 0 ∷ literal (pos 1) ∷ of 42 5 6 ∷ []

-- assert *(v0 + z) = 9
abbrev pub assert_at : ℤ → List Record
assert_at z =
    variable_zero ∷ of 2 1 0 ∷ literal z ∷ of 5 2 3 ∷ of 11 4 0 ∷ of 2 5 0 ∷ of 20 6 0 ∷ literal (pos 9) ∷ of 20 8 0
    ∷ of_all 32 7 7 9 0 (pos 0) ∷ of 48 10 0 ∷ []

-- p = new 2; free p: the first six records of a program that lets p
abbrev pub new_and_free : List Record
new_and_free = five ∷ literal (pos 2) ∷ of 42 1 2 ∷ five ∷ of 2 4 0 ∷ of 43 5 0 ∷ []

-- and then v0 = *(p + z)
abbrev pub read_freed : ℤ → List Record
read_freed z =
    new_and_free ++ (variable_zero ∷ five ∷ of 2 8 0 ∷ literal z ∷ of 5 9 10 ∷ of 11 11 0 ∷ of 2 12 0 ∷ of 41 7 13
    ∷ of 44 6 14 ∷ of 44 3 15 ∷ let_five 16 ∷ [])

-- and then *(p + z) = 5
abbrev pub store_freed : ℤ → List Record
store_freed z =
    new_and_free ++ (five ∷ of 2 7 0 ∷ literal z ∷ of 5 8 9 ∷ of 11 10 0 ∷ literal (pos 5) ∷ of 41 11 12
    ∷ of 44 6 13 ∷ of 44 3 14 ∷ let_five 15 ∷ [])

-- and then assert *(p + z) = 9
abbrev pub assert_freed : ℤ → List Record
assert_freed z =
    new_and_free ++ (five ∷ of 2 7 0 ∷ literal z ∷ of 5 8 9 ∷ of 11 10 0 ∷ of 2 11 0 ∷ of 20 12 0
    ∷ literal (pos 9) ∷ of 20 14 0 ∷ of_all 32 7 13 15 0 (pos 0) ∷ of 48 16 0
    ∷ of 44 6 17 ∷ of 44 3 18 ∷ let_five 19 ∷ [])

-- and then v0 = (x = y) of two variables
abbrev pub compare_after_free : Record → Record → List Record
compare_after_free x y =
    new_and_free ++ (variable_zero ∷ x ∷ of 2 8 0 ∷ y ∷ of 2 10 0 ∷ of_all 4 7 9 11 0 (pos 0) ∷ of 41 7 12
    ∷ of 44 6 13 ∷ of 44 3 14 ∷ let_five 15 ∷ [])

-- and then assert x = y
abbrev pub assert_equal_after_free : Record → Record → List Record
assert_equal_after_free x y =
    new_and_free ++ (x ∷ of 2 7 0 ∷ of 20 8 0 ∷ y ∷ of 2 10 0 ∷ of 20 11 0 ∷ of_all 32 7 9 12 0 (pos 0) ∷ of 48 13 0
    ∷ of 44 6 14 ∷ of 44 3 15 ∷ let_five 16 ∷ [])
