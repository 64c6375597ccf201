-- What a program with other statement numbers keeps: its records, and its translation but for the numbers.
use Prim.Native.Nat.{ℕ, suc, ◌+◌}
use mathlib.Core.Path.{◌≡◌, refl}
use Rattle.rules.specs.Trees.{Term, value, asked, combined, Predicate, holds, compared, negated, both, either}
use Rattle.rules.specs.Trees.{Statement, skip, assign, new, free, sequence, branch, while, let_in, assert}
use Rattle.rules.specs.Emission.{tree_size}
use Rattle.rules.specs.Translation.{translate_term, translate_predicate, translate}
use Rattle.rules.specs.SourceRecords.{source_expression, source_tree, numbered}
use Rattle.rules.specs.Relabelling.{relabel, relabel_target}

module _ (g : ℕ → ℕ) where
  relabel-term : (t : Term) (s n : ℕ) → translate_term t (g s) n ≡ relabel_target g (translate_term t s n)
  unfolding translate_term relabel_target
  relabel-term (value e) s n = refl
  relabel-term (asked q t) s n = rw (relabel-term t s (suc n))
  relabel-term (combined o a b) s n = rw (relabel-term a s (suc n), relabel-term b s (suc (suc n)))

  relabel-predicate : (p : Predicate) (s n : ℕ)
      → translate_predicate p (g s) n ≡ relabel_target g (translate_predicate p s n)
  unfolding translate_predicate relabel_target
  relabel-predicate (holds q t) s n = rw (relabel-term t s (suc n))
  relabel-predicate (compared o a b) s n = rw (relabel-term a s (suc n), relabel-term b s (suc (suc n)))
  relabel-predicate (negated a) s n = rw (relabel-predicate a s (suc n))
  relabel-predicate (both a b) s n = rw (relabel-predicate a s n, relabel-predicate b s n)
  relabel-predicate (either a b) s n = rw (relabel-predicate a s n, relabel-predicate b s n)

  pub relabel-translate : (a : Statement) → translate (relabel g a) ≡ relabel_target g (translate a)
  unfolding translate relabel relabel_target
  relabel-translate (skip s) = refl
  relabel-translate (assign s p e) = refl
  relabel-translate (new s p e) = refl
  relabel-translate (free s e) = refl
  relabel-translate (sequence s a b) = rw (relabel-translate a, relabel-translate b)
  relabel-translate (branch s e a b) = rw (relabel-translate a, relabel-translate b)
  relabel-translate (while s e b) = rw (relabel-translate b)
  relabel-translate (let_in s x b) = rw (relabel-translate b)
  relabel-translate (assert s p) = rw (relabel-predicate p s 0)

  -- a source record says nothing of its number
  pub relabel-records : (a : Statement) → source_tree (relabel g a) ≡ source_tree a
  unfolding source_tree relabel
  relabel-records (skip s) = refl
  relabel-records (assign s p e) = refl
  relabel-records (new s p e) = refl
  relabel-records (free s e) = refl
  relabel-records (sequence s a b) = rw (relabel-records a, relabel-records b)
  relabel-records (branch s e a b) = rw (relabel-records a, relabel-records b)
  relabel-records (while s e b) = rw (relabel-records b)
  relabel-records (let_in s x b) = rw (relabel-records b)
  relabel-records (assert s p) = refl

  -- numbering by records asks for no number
  pub relabel-numbered : (a : Statement) (n : ℕ) → numbered (relabel g a) n ≡ numbered a n
  unfolding numbered source_tree relabel
  relabel-numbered (skip s) n = refl
  relabel-numbered (assign s p e) n = refl
  relabel-numbered (new s p e) n = refl
  relabel-numbered (free s e) n = refl
  relabel-numbered (sequence s a b) n =
      rw (relabel-records a, relabel-records b, relabel-numbered a n, relabel-numbered b (n + tree_size (source_tree a)))
  relabel-numbered (branch s e a b) n =
      let m = n + tree_size (source_expression e) in
      rw (relabel-records a, relabel-records b, relabel-numbered a m, relabel-numbered b (m + tree_size (source_tree a)))
  relabel-numbered (while s e b) n =
      rw (relabel-records b, relabel-numbered b (n + tree_size (source_expression e)))
  relabel-numbered (let_in s x b) n = rw (relabel-records b, relabel-numbered b n)
  relabel-numbered (assert s p) n = refl

  -- through g and then h
  pub relabel-twice : (h : ℕ → ℕ) (a : Statement) → relabel h (relabel g a) ≡ relabel (λ s. h (g s)) a
  unfolding relabel
  relabel-twice h (skip s) = refl
  relabel-twice h (assign s p e) = refl
  relabel-twice h (new s p e) = refl
  relabel-twice h (free s e) = refl
  relabel-twice h (sequence s a b) = rw (relabel-twice h a, relabel-twice h b)
  relabel-twice h (branch s e a b) = rw (relabel-twice h a, relabel-twice h b)
  relabel-twice h (while s e b) = rw (relabel-twice h b)
  relabel-twice h (let_in s x b) = rw (relabel-twice h b)
  relabel-twice h (assert s p) = refl

-- a program numbered by its records differs from it in statement numbers only
abbrev pub unlabelled : Statement → Statement
unlabelled a = relabel (λ s. 0) a

pub numbered-only : (a : Statement) (n : ℕ) → unlabelled (numbered a n) ≡ unlabelled a
unfolding numbered relabel
numbered-only (skip s) n = refl
numbered-only (assign s p e) n = refl
numbered-only (new s p e) n = refl
numbered-only (free s e) n = refl
numbered-only (sequence s a b) n = rw (numbered-only a n, numbered-only b (n + tree_size (source_tree a)))
numbered-only (branch s e a b) n =
    let m = n + tree_size (source_expression e) in
    rw (numbered-only a m, numbered-only b (m + tree_size (source_tree a)))
numbered-only (while s e b) n = rw (numbered-only b (n + tree_size (source_expression e)))
numbered-only (let_in s x b) n = rw (numbered-only b n)
numbered-only (assert s p) n = refl
