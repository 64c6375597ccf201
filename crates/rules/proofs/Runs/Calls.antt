-- What holds after a call to the observation memory.
use Prim.Native.Nat.{ℕ, zero, suc}
use mathlib.Core.Bool.{true}
use mathlib.Core.Path.{◌≡◌, refl}
use lib.IntN.{ℤ, pos, negsuc}
use lib.ListN.{set}
use Rattle.std.specs.Prelude.{Err, None, Ok, Some}
use Rattle.rules.specs.Types.{Pointer, Value, Evaluated, Located, Search, Recorded, Miss, Stop}
use Rattle.rules.specs.Memory.{on_value}
use Rattle.rules.specs.Observation.{Observation, Noted, refused, record_of, mark_run, with_marks, store_at}
use Rattle.rules.specs.Observation.{store_sized, store_block, delete_at, delete_from, delete_block, locate_mark}
use Rattle.rules.specs.Observation.{mark_at, initialise}
use Rattle.rules.specs.Watched.{called_on, called_on_two}
use Rattle.rules.proofs.Runs.Keeping.{AnyValue, Gives, on_value_lem, on-integer, on-pointer}
use Rattle.rules.proofs.Runs.TargetRuns.{NotedKeeps}

-- O is kept by the three calls that change the observation memory: a block is stored under an unused name in the lowest
-- run of free marks, a live block is deleted, a mark of a live block is set
pub record CallsKeep (O : Observation → Type 0) : Type 0 where
  pub storing : (o : Observation) (k first n : ℕ) → O o → record_of o k ≡ Recorded.Unused
      → mark_run o n ≡ Some first → O (with_marks o k (Recorded.Live first n) first n)
  pub deleting : (o : Observation) (k first n : ℕ) → O o → record_of o k ≡ Recorded.Live first n
      → O (with_marks o k Recorded.Dead first n)
  pub marking : (o : Observation) (p : Pointer) (i : ℕ) → O o → locate_mark o p ≡ Ok i
      → O (record { blocks = o.blocks; marks = set o.marks i true })

-- O of the observation memory, E of the number of a refusal
module _ (O : Observation → Type 0) (E : Stop → Type 0) (wrong : E Stop.WrongSort)
    (misused : E Stop.Contradiction) where
  pub store_block-keeps : (o : Observation) (v w : Value)
      → ((k n first : ℕ) → record_of o k ≡ Recorded.Unused → mark_run o (suc n) ≡ Some first
      → O (with_marks o k (Recorded.Live first (suc n)) first (suc n)))
      → NotedKeeps O E (store_block o v w)
  store_block-keeps o v w g =
      on-pointer (NotedKeeps O E) E refused (λ c x. x) AnyValue v _ wrong tt (λ p u.
      on-integer (NotedKeeps O E) E refused (λ c x. x) AnyValue w _ wrong tt (λ z t. sized p.name p.offset z))
    where
      found : (k n : ℕ) (b : Recorded) (r : Search) → record_of o k ≡ b → mark_run o (suc n) ≡ r
          → NotedKeeps O E (store_at o k (suc n) b r)
      found k n Recorded.Unused None d e = misused
      found k n Recorded.Unused (Some first) d e = g k n first d e
      found k n (Recorded.Live first l) r d e = misused
      found k n Recorded.Dead r d e = misused

      sized : (k : ℕ) (y z : ℤ) → NotedKeeps O E (store_sized o k y z)
      sized k (pos zero) (pos (suc n)) = found k n (record_of o k) (mark_run o (suc n)) refl refl
      sized k (pos zero) (pos zero) = misused
      sized k (pos zero) (negsuc n) = misused
      sized k (pos (suc i)) z = misused
      sized k (negsuc i) z = misused

  pub delete_block-keeps : (o : Observation) (v : Value)
      → ((k first n : ℕ) → record_of o k ≡ Recorded.Live first n → O (with_marks o k Recorded.Dead first n))
      → NotedKeeps O E (delete_block o v)
  delete_block-keeps o v g =
      on-pointer (NotedKeeps O E) E refused (λ c x. x) AnyValue v _ wrong tt (λ p u. from p.name p.offset)
    where
      found : (k : ℕ) (b : Recorded) → record_of o k ≡ b → NotedKeeps O E (delete_at o k b)
      found k Recorded.Unused e = misused
      found k (Recorded.Live first n) e = g k first n e
      found k Recorded.Dead e = misused

      from : (k : ℕ) (z : ℤ) → NotedKeeps O E (delete_from o k z)
      from k (pos zero) = found k (record_of o k) refl
      from k (pos (suc i)) = misused
      from k (negsuc i) = misused

  pub initialise-keeps : (o : Observation) (v : Value)
      → ((p : Pointer) (i : ℕ) → locate_mark o p ≡ Ok i
      → O (record { blocks = o.blocks; marks = set o.marks i true })) → NotedKeeps O E (initialise o v)
  initialise-keeps o v g =
      on-pointer (NotedKeeps O E) E refused (λ c x. x) AnyValue v _ wrong tt (λ p u. found p (locate_mark o p) refl)
    where
      found : (p : Pointer) (l : Located) → locate_mark o p ≡ l → NotedKeeps O E (mark_at o l)
      found p (Ok i) e = g p i e
      found p (Err Miss.Dead) e = misused
      found p (Err Miss.Outside) e = misused

  called : (e : Evaluated) (call : Value → Noted) → Gives AnyValue E e
      → ((v : Value) → NotedKeeps O E (call v)) → NotedKeeps O E (called_on e call)
  called e call h g = on_value_lem (NotedKeeps O E) E refused (λ c x. x) e call h (λ v u. g v)

  -- with what temporaries hold
  pub store-called : (o : Observation) (a b : Evaluated) → Gives AnyValue E a → Gives AnyValue E b
      → ((k n first : ℕ) → record_of o k ≡ Recorded.Unused → mark_run o (suc n) ≡ Some first
      → O (with_marks o k (Recorded.Live first (suc n)) first (suc n)))
      → NotedKeeps O E (called_on_two a b (store_block o))
  store-called o a b h k g =
      called a (λ v. on_value b refused (λ w. store_block o v w)) h (λ v.
      called b (λ w. store_block o v w) k (λ w. store_block-keeps o v w g))

  pub delete-called : (o : Observation) (e : Evaluated) → Gives AnyValue E e
      → ((k first n : ℕ) → record_of o k ≡ Recorded.Live first n → O (with_marks o k Recorded.Dead first n))
      → NotedKeeps O E (called_on e (delete_block o))
  delete-called o e h g = called e (delete_block o) h (λ v. delete_block-keeps o v g)

  pub initialise-called : (o : Observation) (e : Evaluated) → Gives AnyValue E e
      → ((p : Pointer) (i : ℕ) → locate_mark o p ≡ Ok i
      → O (record { blocks = o.blocks; marks = set o.marks i true }))
      → NotedKeeps O E (called_on e (initialise o))
  initialise-called o e h g = called e (initialise o) h (λ v. initialise-keeps o v g)
