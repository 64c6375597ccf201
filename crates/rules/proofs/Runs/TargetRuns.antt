-- What every target statement without statements in it keeps, every watched run keeps.
use Prim.Native.Nat.{ℕ, suc}
use lib.ListN.{set}
use Rattle.std.specs.Prelude.{Err, Ok, Some}
use Rattle.rules.specs.Types.{Value, Evaluated, Stop}
use Rattle.rules.specs.Trees.{Expression, Place, Operator, Query}
use Rattle.rules.specs.TargetTrees.{TargetStatement, skip, assign, new, free, sequence, branch, while, let_in}
use Rattle.rules.specs.TargetTrees.{take_address, take_value, take_operation, take_query, take_not, branch_on}
use Rattle.rules.specs.TargetTrees.{assert_on}
use Rattle.rules.specs.TargetTrees as target
use Rattle.rules.specs.Memory.{Change, change_in, fixed, Made, made_in, make_block, end_block, assigned}
use Rattle.rules.specs.Memory.{allocated, freed}
use Rattle.rules.specs.Memory.{on_value}
use Rattle.rules.specs.Numbers.{Liveness}
use Rattle.rules.specs.Evaluation.{Variables, address_of, operated, opposite, condition, extend}
use Rattle.rules.specs.Observation.{Observation, Noted, noted, refused, store_block, delete_block, initialise}
use Rattle.rules.specs.Observation.{query_observation, live_record}
use Rattle.rules.specs.Flow.{into}
use Rattle.rules.specs.Plain.{asserted}
use Rattle.rules.specs.Watched.{WatchedState, watching, with_memory, value_in, place_in, holding, taken, observed}
use Rattle.rules.specs.Watched.{called_on, called_on_two, watch}
use Rattle.rules.proofs.Runs.Keeping.{Gives, TestStops, ChangeKeeps, MadeKeeps}
use Rattle.rules.proofs.Runs.Outcomes.{Onwards, Reaches, reach-itself, reach-into, reach-next, reach-after}
use Rattle.rules.proofs.Runs.Outcomes.{reach-decide, reach-turns, reach-let, asserted-keeps}

-- O of the observation memory after a call, E of the number of a refusal
abbrev pub NotedKeeps : (Observation → Type 0) → (Stop → Type 0) → Noted → Type 0
NotedKeeps O E (noted o) = O o
NotedKeeps O E (refused c) = E c

pub taken-keeps : (J : WatchedState → Type 0) (E : Stop → Type 0) (T : Value → Type 0) (x : WatchedState) (n : ℕ)
    (e : Evaluated) → J x → Gives T E e
    → ((v : Value) → T v → J (watching x.memory x.observation (set x.temporaries n (Some v))))
    → ChangeKeeps J E (taken x n e)
taken-keeps J E T x n (Ok v) j h g = g v h
taken-keeps J E T x n (Err c) j h g = (h, j)

pub observed-keeps : (J : WatchedState → Type 0) (E : Stop → Type 0) (O : Observation → Type 0) (x : WatchedState)
    (r : Noted) → J x → NotedKeeps O E r → ((o : Observation) → O o → J (watching x.memory o x.temporaries))
    → ChangeKeeps J E (observed x r)
observed-keeps J E O x (noted o) j h g = g o h
observed-keeps J E O x (refused c) j h g = (h, j)

-- the change that each statement without statements in it makes
abbrev pub assigning : Place ℕ → Expression ℕ → Variables → WatchedState → Change WatchedState
assigning p e ρ x = change_in (with_memory x) (assigned x.memory (place_in p ρ x) (value_in e ρ x))

abbrev pub allocating : Place ℕ → Expression ℕ → Variables → WatchedState → Change WatchedState
allocating p e ρ x = change_in (with_memory x) (allocated x.memory (place_in p ρ x) (value_in e ρ x))

abbrev pub freeing : Expression ℕ → Variables → WatchedState → Change WatchedState
freeing e ρ x = change_in (with_memory x) (freed x.memory (value_in e ρ x))

-- whom kind 63 asks
abbrev pub asked_in : WatchedState → Liveness
asked_in x = live_record x.observation

abbrev pub operating : Operator → ℕ → WatchedState → Evaluated
operating q n x = operated (asked_in x) q (holding x (suc n)) (holding x (suc (suc n)))

abbrev pub querying : Query → ℕ → WatchedState → Evaluated
querying q n x = on_value (holding x (suc n)) Err (query_observation q x.observation)

abbrev pub negating : ℕ → WatchedState → Evaluated
negating n x = on_value (holding x (suc n)) Err opposite

abbrev pub storing : ℕ → WatchedState → Noted
storing n x = called_on_two (holding x n) (holding x (suc n)) (store_block x.observation)

abbrev pub deleting : ℕ → WatchedState → Noted
deleting n x = called_on (holding x n) (delete_block x.observation)

abbrev pub initialising : ℕ → WatchedState → Noted
initialising n x = called_on (holding x n) (initialise x.observation)

abbrev pub making : WatchedState → Made WatchedState
making x = made_in (with_memory x) (make_block x.memory fixed 1)

abbrev pub closing : WatchedState → ℕ → WatchedState
closing x k = with_memory x (end_block x.memory k)

-- what each keeps of a state with P
pub record WatchKeeps (P : WatchedState → Type 0) (R : WatchedState → WatchedState → Type 0)
    (G : WatchedState → ℕ → Type 0) (E : Stop → Type 0) : Type 0 where
  pub onwards : Onwards P R
  pub assigns : (p : Place ℕ) (e : Expression ℕ) (ρ : Variables) (x : WatchedState) → P x
      → ChangeKeeps (R x) E (assigning p e ρ x)
  pub allocates : (p : Place ℕ) (e : Expression ℕ) (ρ : Variables) (x : WatchedState) → P x
      → ChangeKeeps (R x) E (allocating p e ρ x)
  pub frees : (e : Expression ℕ) (ρ : Variables) (x : WatchedState) → P x → ChangeKeeps (R x) E (freeing e ρ x)
  pub takes-address : (n : ℕ) (p : Place ℕ) (ρ : Variables) (x : WatchedState) → P x
      → ChangeKeeps (R x) E (taken x n (address_of (place_in p ρ x)))
  pub takes-value : (n : ℕ) (e : Expression ℕ) (ρ : Variables) (x : WatchedState) → P x
      → ChangeKeeps (R x) E (taken x n (value_in e ρ x))
  pub takes-operation : (n : ℕ) (q : Operator) (x : WatchedState) → P x
      → ChangeKeeps (R x) E (taken x n (operating q n x))
  pub takes-query : (n : ℕ) (q : Query) (x : WatchedState) → P x → ChangeKeeps (R x) E (taken x n (querying q n x))
  pub takes-not : (n : ℕ) (x : WatchedState) → P x → ChangeKeeps (R x) E (taken x n (negating n x))
  pub stores : (n : ℕ) (x : WatchedState) → P x → ChangeKeeps (R x) E (observed x (storing n x))
  pub deletes : (n : ℕ) (x : WatchedState) → P x → ChangeKeeps (R x) E (observed x (deleting n x))
  pub initialises : (n : ℕ) (x : WatchedState) → P x → ChangeKeeps (R x) E (observed x (initialising n x))
  pub decides : (e : Expression ℕ) (ρ : Variables) (x : WatchedState) → P x → TestStops E (condition (value_in e ρ x))
  pub decides-on : (n : ℕ) (x : WatchedState) → P x → TestStops E (condition (holding x n))
  pub makes : (x : WatchedState) → P x → MadeKeeps (λ k y. G x k × R x y) E (making x)
  pub ends : (x y : WatchedState) (k : ℕ) → G x k → R x y → R x (closing y k)
  pub out-of-fuel : E Stop.NoFuel
  pub false-assertion : E Stop.FalseAssertion

module _ {P : WatchedState → Type 0} {R : WatchedState → WatchedState → Type 0} {G : WatchedState → ℕ → Type 0}
    {E : Stop → Type 0} (h : WatchKeeps P R G E) where
  pub watch-reaches : (a : TargetStatement) (ρ : Variables) (x : WatchedState) (f : ℕ) → P x
      → Reaches R E x f (watch a ρ x f)
  unfolding watch
  watch-reaches (skip s) ρ x f v = reach-itself E h.onwards x f v
  watch-reaches (assign s p e) ρ x f v = reach-after E h.onwards x s ρ f (assigning p e ρ x) (h.assigns p e ρ x v)
  watch-reaches (new s p e) ρ x f v = reach-after E h.onwards x s ρ f (allocating p e ρ x) (h.allocates p e ρ x v)
  watch-reaches (free s e) ρ x f v = reach-after E h.onwards x s ρ f (freeing e ρ x) (h.frees e ρ x v)
  watch-reaches (sequence s a b) ρ x f v =
      reach-next E h.onwards x f (into 0 (watch a ρ x f)) (λ y g. into 1 (watch b ρ y g))
      (reach-into E h.onwards 0 x f (watch a ρ x f) (watch-reaches a ρ x f v)) (λ y g r l.
      reach-into E h.onwards 1 y g (watch b ρ y g) (watch-reaches b ρ y g (h.onwards.valid r)))
  watch-reaches (branch s e a b) ρ x f v =
      reach-decide E h.onwards s ρ (condition (value_in e ρ x)) x f (into 1 (watch a ρ x f))
      (into 2 (watch b ρ x f)) v
      (h.decides e ρ x v)
      (reach-into E h.onwards 1 x f (watch a ρ x f) (watch-reaches a ρ x f v))
      (reach-into E h.onwards 2 x f (watch b ρ x f) (watch-reaches b ρ x f v))
  watch-reaches (while s e b) ρ x f v =
      reach-turns E h.onwards s ρ (λ y. condition (value_in e ρ y)) (λ y g. into 1 (watch b ρ y g))
      h.out-of-fuel (λ y u. h.decides e ρ y u) (λ y g u.
      reach-into E h.onwards 1 y g (watch b ρ y g) (watch-reaches b ρ y g u)) f x f v
  watch-reaches (let_in s z b) ρ x f v =
      reach-let E h.onwards (λ k y. G x k × R x y) s ρ x f (making x) closing
      (λ k y g. into 0 (watch b (extend ρ z k) y g)) v (h.makes x v)
      (λ k y g. g.1) (λ k y g. reach-into E h.onwards 0 y f (watch b (extend ρ z k) y f)
      (watch-reaches b (extend ρ z k) y f (h.onwards.valid g.1)))
      (λ k y z g r. h.ends x z k g.0 r)
  watch-reaches (take_address s n p) ρ x f v =
      reach-after E h.onwards x s ρ f (taken x n (address_of (place_in p ρ x))) (h.takes-address n p ρ x v)
  watch-reaches (take_value s n e) ρ x f v =
      reach-after E h.onwards x s ρ f (taken x n (value_in e ρ x)) (h.takes-value n e ρ x v)
  watch-reaches (take_operation s n q) ρ x f v =
      reach-after E h.onwards x s ρ f (taken x n (operating q n x)) (h.takes-operation n q x v)
  watch-reaches (take_query s n q) ρ x f v =
      reach-after E h.onwards x s ρ f (taken x n (querying q n x)) (h.takes-query n q x v)
  watch-reaches (take_not s n) ρ x f v =
      reach-after E h.onwards x s ρ f (taken x n (negating n x)) (h.takes-not n x v)
  watch-reaches (branch_on s n a b) ρ x f v =
      reach-decide E h.onwards s ρ (condition (holding x n)) x f (into 1 (watch a ρ x f)) (into 2 (watch b ρ x f)) v
      (h.decides-on n x v)
      (reach-into E h.onwards 1 x f (watch a ρ x f) (watch-reaches a ρ x f v))
      (reach-into E h.onwards 2 x f (watch b ρ x f) (watch-reaches b ρ x f v))
  watch-reaches (assert_on s n) ρ x f v =
      reach-after E h.onwards x s ρ f (asserted x (condition (holding x n)))
      (asserted-keeps (R x) E x (condition (holding x n)) h.false-assertion (h.onwards.itself v)
      (h.decides-on n x v))
  watch-reaches (target.store_block s n) ρ x f v =
      reach-after E h.onwards x s ρ f (observed x (storing n x)) (h.stores n x v)
  watch-reaches (target.delete_block s n) ρ x f v =
      reach-after E h.onwards x s ρ f (observed x (deleting n x)) (h.deletes n x v)
  watch-reaches (target.initialise s n) ρ x f v =
      reach-after E h.onwards x s ρ f (observed x (initialising n x)) (h.initialises n x v)
