-- How the two runs go together through one statement.
use Prim.Native.Nat.{ℕ, zero, suc}
use native.Mathlib.Omega.{arith}
use mathlib.Core.Path.{◌≡◌, refl, ap}
use mathlib.Core.Logic.{◌≢◌}
use lib.IntN.{ℤ, pos, negsuc}
use Rattle.std.specs.Prelude.{Err, Ok, Some, true, false}
use Rattle.rules.specs.Types.{Pointer, Value, Evaluated, Found, Test, Located, Block, Cell, Miss, Stop, stop_number}
use Rattle.rules.specs.Numbers.{tested}
use Rattle.rules.specs.Memory.{Memory, recorded_of, block_of, locate, at_cell, set_cell, Change, changed, stopped}
use Rattle.rules.specs.Memory.{change_in, assigned, free_of, freed}
use Rattle.rules.specs.Evaluation.{Variables, address_of, condition}
use Rattle.rules.specs.Observation.{Observation, pointer_to, mirror}
use Rattle.rules.specs.Flow.{TreePath, Outcome, finished, ended, ending, into, next, after, decide, turns}
use Rattle.rules.specs.Plain.{asserted}
use Rattle.rules.specs.Watched.{Temporaries, temporary_of, WatchedState, watching, with_memory, taken}
use Rattle.rules.specs.Watched.{holding, observed}
use Rattle.rules.proofs.Runs.TargetRuns.{initialising, deleting}
use Rattle.rules.proofs.Memory.Invariant.{Invariant}
use Rattle.rules.proofs.Runs.DefinedValues.{Defined, FairEvaluated}
use Rattle.rules.proofs.Simulation.Mirror.{mirror-initialise, mirror-delete}
use Rattle.rules.proofs.Simulation.PredicateSimulation.{Full, put, full_put, put_same, Gives, gives, stops}

-- a watched run from a state and fuel, and a plain one
abbrev pub Watching : Type 0
Watching = WatchedState → ℕ → Outcome WatchedState

abbrev pub Running : Type 0
Running = Memory → ℕ → Outcome Memory

-- what the two runs owe each other: after a new block whose store ends 42 or 50 the observation memory lacks that block
pub data Agree : Outcome Memory → Outcome WatchedState → Type 0 where
  both-finish : {m : Memory} {o : Observation} {τ : Temporaries} {f : ℕ} → o ≡ mirror m → Full τ
      → Agree (finished m f) (finished (watching m o τ) f)
  both_end : {c : Stop} {s : ℕ} {ρ : Variables} {w w₁ : TreePath} {m : Memory} {o : Observation} {τ : Temporaries}
      {f : ℕ} → ((stop_number c ≢ 42) × (stop_number c ≢ 50) → o ≡ mirror m)
      → Agree (ended c s ρ w m f) (ended c s ρ w₁ (watching m o τ) f)

-- a step that does so from every memory
abbrev pub Agreeing : Running → Watching → Type 0
Agreeing k kw =
    (m : Memory) (τ : Temporaries) (f : ℕ) → Invariant m → Full τ → Agree (k m f) (kw (watching m (mirror m) τ) f)

-- whichever children of their programs they are
pub agree-into : {p : Outcome Memory} {w : Outcome WatchedState} (i j : ℕ) → Agree p w → Agree (into i p) (into j w)
agree-into i j (both-finish e l) = both-finish e l
agree-into i j (both_end h) = both_end h

pub agree-within : {p : Outcome Memory} {w : Outcome WatchedState} (j : ℕ) → Agree p w → Agree p (into j w)
agree-within j (both-finish e l) = both-finish e l
agree-within j (both_end h) = both_end h

pub agree-next : {p : Outcome Memory} {w : Outcome WatchedState} (k : Running) (kw : Watching) → Agree p w
    → Invariant (ending p).state → Agreeing k kw → Agree (next p k) (next w kw)
agree-next k kw (both-finish {m} {o} {τ} {f} e l) y g = rw e (g m τ f y l)
agree-next k kw (both_end h) y g = both_end h

pub agree-decide : (s : ℕ) (ρ : Variables) (t t₁ : Test) (m : Memory) (τ : Temporaries) (f : ℕ) (x y : Outcome Memory)
    (u v : Outcome WatchedState) → t₁ ≡ t → Agree x u → Agree y v
    → Agree (decide s ρ t m f x y) (decide s ρ t₁ (watching m (mirror m) τ) f u v)
agree-decide s ρ (Ok true) t₁ m τ f x y u v e p q = rw e p
agree-decide s ρ (Ok false) t₁ m τ f x y u v e p q = rw e q
agree-decide s ρ (Err c) t₁ m τ f x y u v e p q = rw e (both_end (λ z. refl))

pub agree-turns : (g s : ℕ) (ρ : Variables) (holds : Memory → Test) (holds₁ : WatchedState → Test) (k : Running)
    (kw : Watching)
    → ((x : WatchedState) → holds₁ x ≡ holds x.memory) → Agreeing k kw
    → ((m : Memory) (f : ℕ) → Invariant m → Invariant (ending (k m f)).state)
    → Agreeing (turns g s ρ holds k) (turns g s ρ holds₁ kw)
unfolding turns
agree-turns zero s ρ holds holds₁ k kw e h v m τ f i l = both_end (λ z. refl)
agree-turns (suc g) s ρ holds holds₁ k kw e h v m τ zero i l = both_end (λ z. refl)
agree-turns (suc g) s ρ holds holds₁ k kw e h v m τ (suc f) i l =
    agree-decide s ρ (holds m) (holds₁ (watching m (mirror m) τ)) m τ f _ (finished m f) _ _
    (e (watching m (mirror m) τ))
    (agree-next _ _ (h m τ f i l) (v m f i) (agree-turns g s ρ holds holds₁ k kw e h v))
    (both-finish refl l)

-- a change that both make
agree_after : (s : ℕ) (ρ : Variables) (m : Memory) (τ : Temporaries) (f : ℕ) (t : Test) → Full τ
    → Agree (after s ρ f (asserted m t)) (after s ρ f (asserted (watching m (mirror m) τ) t))
agree_after s ρ m τ f (Ok true) l = both-finish refl l
agree_after s ρ m τ f (Ok false) l = both_end (λ z. refl)
agree_after s ρ m τ f (Err c) l = both_end (λ z. refl)

-- the assertion
pub agree-assert : {s : ℕ} {ρ : Variables} {m : Memory} {τ : Temporaries} {f : ℕ} {r : Evaluated}
    {w : Outcome WatchedState} → Gives 0 s ρ τ m (mirror m) f r w
    → Agree (after s ρ f (asserted m (condition r)))
    (next (into 0 w) (λ x g. into 1 (after s ρ g (asserted x (condition (holding x 0))))))
agree-assert {s} {ρ} {m} {τ} {f} (gives {v} {τ₁} h l p) = rw h (agree-within 1 (agree_after s ρ m τ₁ f (tested v) l))
agree-assert stops = both_end (λ z. refl)

-- a store: its cell is marked after it
abbrev mark_after : ℕ → Variables → Watching
mark_after s ρ x f = into 1 (after s ρ f (observed x (initialising 0 x)))

abbrev pub stored : Memory → Pointer → Value → Located → Change Memory
stored m p v r = at_cell (λ i. changed (set_cell m i (Cell.Holds p.name v))) (λ k. stopped k m) r

-- a change of the execution memory, in the watched run
abbrev pub changing : ℕ → Variables → WatchedState → ℕ → Change Memory → Outcome WatchedState
changing s ρ x f c = into 0 (after s ρ f (change_in (with_memory x) c))

agree-stored : (s : ℕ) (ρ : Variables) (m : Memory) (τ : Temporaries) (f : ℕ) (p : Pointer) (v : Value) (r : Located)
    → Defined v → locate m p ≡ r → temporary_of τ 0 ≡ Some (Value.Pointer p) → Full τ
    → Agree (after s ρ f (stored m p v r))
    (next (changing s ρ (watching m (mirror m) τ) f (stored m p v r)) (mark_after s ρ))
agree-stored s ρ m τ f p v (Ok i) d e t l = rw (t, mirror-initialise m p i v d e) (both-finish refl l)
agree-stored s ρ m τ f p v (Err Miss.Dead) d e t l = both_end (λ z. refl)
agree-stored s ρ m τ f p v (Err Miss.Outside) d e t l = both_end (λ z. refl)

pub agree-assigned : (s : ℕ) (ρ : Variables) (m : Memory) (τ : Temporaries) (f : ℕ) (x : Found) (r : Evaluated)
    (x₁ : WatchedState → Found) (r₁ : WatchedState → Evaluated) → FairEvaluated r → Full τ
    → ((t : Temporaries) → x₁ (watching m (mirror m) t) ≡ x) → ((t : Temporaries) → r₁ (watching m (mirror m) t) ≡ r)
    → Agree (after s ρ f (assigned m x r))
    (next (into 0 (after s ρ f (taken (watching m (mirror m) τ) 0 (address_of (x₁ (watching m (mirror m) τ))))))
    (λ y g. into 1 (next (changing s ρ y g (assigned y.memory (x₁ y) (r₁ y))) (mark_after s ρ))))
agree-assigned s ρ m τ f (Err c) r x₁ r₁ d l h g = rw (h τ) (both_end (λ z. refl))
agree-assigned s ρ m τ f (Ok p) (Err c) x₁ r₁ d l h g =
    rw (h τ, h (put τ 0 (Value.Pointer p)), g (put τ 0 (Value.Pointer p))) (both_end (λ z. refl))
agree-assigned s ρ m τ f (Ok p) (Ok v) x₁ r₁ d l h g =
    rw (h τ, h (put τ 0 (Value.Pointer p)), g (put τ 0 (Value.Pointer p)))
    (agree-within 1 (agree-stored s ρ m (put τ 0 (Value.Pointer p)) f p v (locate m p) d refl
    (put_same τ 0 (Value.Pointer p) l (omega arith)) (full_put τ 0 (Value.Pointer p) l)))

-- a free: its block is deleted after it
abbrev delete_after : ℕ → Variables → Watching
delete_after s ρ x f = into 1 (after s ρ f (observed x (deleting 0 x)))

agree-free_of : (s : ℕ) (ρ : Variables) (m : Memory) (τ : Temporaries) (f k : ℕ) (b : Block) → block_of m k ≡ b
    → temporary_of τ 0 ≡ Some (pointer_to k 0) → Full τ
    → Agree (after s ρ f (free_of m k b))
    (next (changing s ρ (watching m (mirror m) τ) f (free_of m k b)) (delete_after s ρ))
agree-free_of s ρ m τ f k Block.Unused e t l = both_end (λ z. refl)
agree-free_of s ρ m τ f k (Block.Fixed first n) e t l = both_end (λ z. refl)
agree-free_of s ρ m τ f k (Block.Freeable first n) e t l =
    rw (t, mirror-delete m k first n (ap recorded_of e)) (both-finish refl l)
agree-free_of s ρ m τ f k Block.Dead e t l = both_end (λ z. refl)

agree-free_at : (s : ℕ) (ρ : Variables) (m : Memory) (τ : Temporaries) (f k : ℕ) (z : ℤ)
    → temporary_of τ 0 ≡ Some (Value.Pointer (record { name = k; offset = z })) → Full τ
    → let c = freed m (Ok (Value.Pointer (record { name = k; offset = z }))) in
    Agree (after s ρ f c) (next (changing s ρ (watching m (mirror m) τ) f c) (delete_after s ρ))
agree-free_at s ρ m τ f k (pos zero) t l = agree-free_of s ρ m τ f k (block_of m k) refl t l
agree-free_at s ρ m τ f k (pos (suc i)) t l = both_end (λ z. refl)
agree-free_at s ρ m τ f k (negsuc i) t l = both_end (λ z. refl)

pub agree-freed : (s : ℕ) (ρ : Variables) (m : Memory) (τ : Temporaries) (f : ℕ) (r : Evaluated)
    (r₁ : WatchedState → Evaluated) → Full τ
    → ((t : Temporaries) → r₁ (watching m (mirror m) t) ≡ r)
    → Agree (after s ρ f (freed m r))
    (next (into 0 (after s ρ f (taken (watching m (mirror m) τ) 0 (r₁ (watching m (mirror m) τ)))))
    (λ y g. into 1 (next (changing s ρ y g (freed y.memory (r₁ y))) (delete_after s ρ))))
agree-freed s ρ m τ f (Err c) r₁ l g = rw (g τ) (both_end (λ z. refl))
agree-freed s ρ m τ f (Ok v) r₁ l g = rw (g τ, g (put τ 0 v)) (agree-within 1 (go v))
  where
    go : (v : Value)
        → Agree (after s ρ f (freed m (Ok v)))
        (next (changing s ρ (watching m (mirror m) (put τ 0 v)) f (freed m (Ok v))) (delete_after s ρ))
    go Value.Undefined = both_end (λ z. refl)
    go (Value.Integer z) = both_end (λ z. refl)
    go (Value.Pointer p) =
        agree-free_at s ρ m (put τ 0 (Value.Pointer p)) f p.name p.offset
        (put_same τ 0 (Value.Pointer p) l (omega arith)) (full_put τ 0 (Value.Pointer p) l)
