-- What is noted of records that are children.
use Rattle.std.specs.Prelude.{ℕ, zero, suc, cond, ◌||◌, List, eqb, get_or, set}

-- v put for a child that is there, 0 being none
abbrev pub put_at : ℕ → ℕ → List ℕ → List ℕ
put_at x v l = cond (eqb x 0) l (set l x v)

-- the note of a child of a record with scope s below it: s for the first parent met, 2 from the second on
abbrev pub joined : ℕ → ℕ → ℕ
joined s v = cond (eqb v 0) s 2

-- of one that is its child k times
abbrev pub noted : ℕ → ℕ → ℕ → ℕ
noted s zero v = v
noted s (suc k) v = joined s (noted s k v)

-- noted of a child that is there
abbrev pub note_at : ℕ → ℕ → List ℕ → List ℕ
note_at s x l = put_at x (joined s (get_or l x 0)) l

-- C where it is a child, and not the operator or query of 63 and 64
abbrev pub third_child : ℕ → ℕ → ℕ
third_child k x = cond (eqb k 63 || eqb k 64) 0 x
