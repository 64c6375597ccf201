-- "At most 14 target records come from each source record": how many come from record n of a source table.
use Rattle.std.specs.Prelude.{ℕ, zero, suc, ◌+◌, ◌*◌, cond, List, [], ◌∷◌, eqb, None, Some}
use Rattle.rules.specs.Records.{fields_of, record_count, kind_of, record_at}
use Rattle.rules.specs.Kinds.{source, between}
use Rattle.rules.specs.Checker.{total, parent_of}
use Rattle.rules.specs.Nodes.{by_kind, ◌gives◌}

-- "Parts listed in order nest as 44(first, 44(second, ..))": the records of a list, from those of its parts
abbrev pub list_records : ℕ → List ℕ → ℕ
list_records p [] = p
list_records p (q ∷ qs) = 1 + p + list_records q qs

-- the records that come from one copy of a record of kind k, its children's not among them: of the parts in order, one
-- that is a child's translation counts 0, another its record and those below it that are no child's
abbrev pub own_records : ℕ → ℕ
own_records k =
    by_kind k
    -- "41: 60 t0 place; 41; 70 t0."
    (41 gives list_records 1 (1 ∷ 1 ∷ [])
    -- "42: 60 t0 place; 61 t2 size; 42; 61 t1 read of 12 t0; 68 n=1; 70 t0."
    ∷ 42 gives list_records 1 (1 ∷ 1 ∷ 3 ∷ 1 ∷ 1 ∷ [])
    -- "43: 61 t0; 43; 69 t0."
    ∷ 43 gives list_records 1 (1 ∷ 1 ∷ [])
    -- "47: let of (60 t0 variable; 61 t1 literal 1; 68 n=0; body; 60 t0 variable; 69 t0)."
    ∷ 47 gives (1 + list_records 2 (2 ∷ 1 ∷ 0 ∷ 2 ∷ 1 ∷ []))
    -- "48: predicate at level 0; 67 t0."
    ∷ 48 gives list_records 0 (1 ∷ [])
    -- "21–23, 30, 31: child at n+1; 64."
    ∷ 21 gives list_records 0 (1 ∷ [])
    ∷ 22 gives list_records 0 (1 ∷ [])
    ∷ 23 gives list_records 0 (1 ∷ [])
    ∷ 30 gives list_records 0 (1 ∷ [])
    ∷ 31 gives list_records 0 (1 ∷ [])
    -- "24, 32: A at n+1; B at n+2; 63."
    ∷ 24 gives list_records 0 (0 ∷ 1 ∷ [])
    ∷ 32 gives list_records 0 (0 ∷ 1 ∷ [])
    -- "33: child at n+1; 65."
    ∷ 33 gives list_records 0 (1 ∷ [])
    -- "34: A at n; 66 with B at n, else skip. 35: A at n; 66 with skip, else B at n."
    ∷ 34 gives list_records 0 (2 ∷ [])
    ∷ 35 gives list_records 0 (2 ∷ [])
    ∷ [])
    -- "20 is 61 tn"; "40, 44, 45, 46 keep their form"; expressions and places are copied
    1

-- how often one copy of a record of kind k has the records of child i, A being 0. "41, 42 or 43 in a list is the
-- statement itself with its own further copy of its children": the place of 41 and 42, the size of 42 and what 43 frees
-- stand in a part before it too
abbrev pub copies_of_child : ℕ → ℕ → ℕ
copies_of_child k zero = cond (between 41 43 k) 2 1
copies_of_child k (suc zero) = cond (eqb k 42) 2 1
copies_of_child k (suc (suc i)) = 1

-- in each of the fields of a record of kind k, from field i on, the copies that it has of record n
abbrev pub copies_from : ℕ → ℕ → List ℕ → ℕ → List ℕ
copies_from k i [] n = []
copies_from k i (x ∷ xs) n = cond (eqb x n) (copies_of_child k i) 0 ∷ copies_from k (suc i) xs n

-- how often one copy of record m has record n's records
abbrev pub copies_in : List ℕ → ℕ → ℕ → ℕ
copies_in t m n = total (copies_from (kind_of t m) 0 (fields_of (record_at t m)) n)

-- how many copies of record n the translation has; d bounds the records above
unfoldable pub copies_of : List ℕ → ℕ → ℕ → ℕ
copies_of t zero n = 1
copies_of t (suc d) n =
    elim (parent_of source t n) [
      | Some m ↦ copies_in t m n * copies_of t d m
      | None ↦ 1
    ]

-- how many target records come from record n
abbrev pub target_records : List ℕ → ℕ → ℕ
target_records t n = copies_of t (record_count t) n * own_records (kind_of t n)

-- f 1 + .. + f k
unfoldable pub sum : ℕ → (ℕ → ℕ) → ℕ
sum zero f = 0
sum (suc k) f = sum k f + f (suc k)
