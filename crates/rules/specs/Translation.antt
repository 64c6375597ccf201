-- "Translating": a source statement as a target statement.
use Rattle.std.specs.Prelude.{ℕ, suc, List, [], ◌∷◌, pos}
use Rattle.rules.specs.Records.{Record, table_bytes}
use Rattle.rules.specs.Trees.{Expression, literal, read, address, operation, shifted, Place, variable, pointed}
use Rattle.rules.specs.Trees.{temporary, Term, value, asked, combined, Predicate, holds, compared, negated, both}
use Rattle.rules.specs.Trees.{either, Statement}
use Rattle.rules.specs.Trees as tree
use Rattle.rules.specs.TargetTrees.{TargetStatement, skip, assign, new, free, sequence, branch, while, let_in}
use Rattle.rules.specs.TargetTrees.{take_address, take_value, take_operation, take_query, take_not, branch_on}
use Rattle.rules.specs.TargetTrees.{assert_on, store_block, delete_block, initialise}
use Rattle.rules.specs.Nodes.{source_program}
use Rattle.rules.specs.Emission.{statement_tree, emit}

-- an expression or place of the source is one of the target
unfoldable mutual
  pub embed : Expression ⊥ → Expression ℕ
  embed (literal z) = literal z
  embed (read p) = read (embed_place p)
  embed (address p) = address (embed_place p)
  embed (operation o a b) = operation o (embed a) (embed b)
  embed (shifted a b) = shifted (embed a) (embed b)

  pub embed_place : Place ⊥ → Place ℕ
  embed_place (variable x) = variable x
  embed_place (pointed e) = pointed (embed e)
  embed_place (temporary t) = elim t [ ]

-- "Parts listed in order nest as 44(first, 44(second, ..))."
abbrev pub listed : ℕ → TargetStatement → List TargetStatement → TargetStatement
listed s p [] = p
listed s p (q ∷ qs) = sequence s p (listed s q qs)

-- "At level n: 20 is 61 tn. 21–23 ..: child at n+1; 64. 24 ..: A at n+1; B at n+2; 63."
unfoldable pub translate_term : Term → ℕ → ℕ → TargetStatement
translate_term (value e) s n = take_value s n (embed e)
translate_term (asked q t) s n = listed s (translate_term t s (suc n)) (take_query s n q ∷ [])
translate_term (combined o a b) s n =
    listed s (translate_term a s (suc n)) (translate_term b s (suc (suc n)) ∷ take_operation s n o ∷ [])

-- ".. 30, 31: child at n+1; 64. .. 32: A at n+1; B at n+2; 63. 33: child at n+1; 65. 34: A at n; 66 with B at n, else
-- skip. 35: A at n; 66 with skip, else B at n."
unfoldable pub translate_predicate : Predicate → ℕ → ℕ → TargetStatement
translate_predicate (holds q t) s n = listed s (translate_term t s (suc n)) (take_query s n q ∷ [])
translate_predicate (compared o a b) s n =
    listed s (translate_term a s (suc n)) (translate_term b s (suc (suc n)) ∷ take_operation s n o ∷ [])
translate_predicate (negated a) s n = listed s (translate_predicate a s (suc n)) (take_not s n ∷ [])
translate_predicate (both a b) s n =
    listed s (translate_predicate a s n) (branch_on s n (translate_predicate b s n) (skip s) ∷ [])
translate_predicate (either a b) s n =
    listed s (translate_predicate a s n) (branch_on s n (skip s) (translate_predicate b s n) ∷ [])

-- "Kinds 40, 44, 45, 46 keep their form. Address and size are saved before the store"
unfoldable pub translate : Statement → TargetStatement
translate (tree.skip s) = skip s
-- "41: 60 t0 place; 41; 70 t0."
translate (tree.assign s p e) =
    listed s (take_address s 0 (embed_place p)) (assign s (embed_place p) (embed e) ∷ initialise s 0 ∷ [])
-- "42: 60 t0 place; 61 t2 size; 42; 61 t1 read of 12 t0; 68 n=1; 70 t0."
translate (tree.new s p e) =
    listed s (take_address s 0 (embed_place p))
    (take_value s 2 (embed e)
    ∷ new s (embed_place p) (embed e)
    ∷ take_value s 1 (read (temporary 0))
    ∷ store_block s 1
    ∷ initialise s 0
    ∷ [])
-- "43: 61 t0; 43; 69 t0."
translate (tree.free s e) = listed s (take_value s 0 (embed e)) (free s (embed e) ∷ delete_block s 0 ∷ [])
translate (tree.sequence s a b) = sequence s (translate a) (translate b)
translate (tree.branch s e a b) = branch s (embed e) (translate a) (translate b)
translate (tree.while s e b) = while s (embed e) (translate b)
-- "47: let of (60 t0 variable; 61 t1 literal 1; 68 n=0; body; 60 t0 variable; 69 t0)."
translate (tree.let_in s x b) =
    let_in s x
    (listed s (take_address s 0 (variable x))
    (take_value s 1 (literal (pos 1))
    ∷ store_block s 0
    ∷ translate b
    ∷ take_address s 0 (variable x)
    ∷ delete_block s 0
    ∷ []))
-- "48: predicate at level 0; 67 t0."
translate (tree.assert s p) = listed s (translate_predicate p s 0) (assert_on s 0 ∷ [])

-- the records and the bytes of an accepted source table's translation
unfoldable pub translated_records : List ℕ → List Record
translated_records t = emit (statement_tree (translate (source_program t))) 0

abbrev pub translation : List ℕ → List ℕ
translation t = table_bytes (translated_records t)
