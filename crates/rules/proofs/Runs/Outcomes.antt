-- What holds of how a run comes out, by the parts of the statement, whatever its state S is.
use Prim.Native.Nat.{ℕ, zero, suc, ◌≤◌}
use native.Mathlib.Omega.{arith}
use mathlib.Core.Path.{◌≡◌, refl, ap}
use Rattle.std.specs.Prelude.{Err, Ok, true, false}
use Rattle.rules.specs.Types.{Test, Stop}
use Rattle.rules.specs.Memory.{Memory, Change, changed, stopped, change_in, Made, made, unmade, made_in}
use Rattle.rules.specs.Evaluation.{Variables}
use Rattle.rules.specs.Flow.{Outcome, finished, ended, ending, into, next, after, decide, turns, in_let}
use Rattle.rules.specs.Plain.{asserted}
use Rattle.rules.proofs.Runs.Keeping.{TestStops, AnyState, ChangeKeeps, MadeKeeps}

-- I of state and fuel where a run is finished, and where it is ended, with E of the ending's number
abbrev pub Outcomes : {S : Type 0} → (S → ℕ → Type 0) → (Stop → Type 0) → Outcome S → Type 0
Outcomes I E (finished x f) = I x f
Outcomes I E (ended c s ρ w x f) = E c × I x f

pub outcomes-state : {S : Type 0} (I : S → ℕ → Type 0) (E : Stop → Type 0) (o : Outcome S) → Outcomes I E o
    → I (ending o).state (ending o).fuel
outcomes-state I E (finished x f) h = h
outcomes-state I E (ended c s ρ w x f) h = h.1

-- which child a statement is no answer tells
pub into-ending : {S : Type 0} (n : ℕ) (o : Outcome S) → ending (into n o) ≡ ending o
into-ending n (finished x f) = refl
into-ending n (ended c s ρ w x f) = refl

pub into-state : {S : Type 0} (n : ℕ) (o : Outcome S) → (ending (into n o)).state ≡ (ending o).state
into-state n o = ap (λ e. e.state) (into-ending n o)

-- P holds of a state where a run starts, and R of two between which it runs
pub record Onwards {S : Type 0} (P : S → Type 0) (R : S → S → Type 0) : Type 0 where
  pub valid : {x y : S} → R x y → P y
  pub itself : {x : S} → P x → R x x
  pub further : {x y z : S} → R x y → R y z → R x z

-- a run from x with fuel f reaches what R allows, with no more fuel, and ends with a number of E
abbrev pub Reaches : {S : Type 0} → (S → S → Type 0) → (Stop → Type 0) → S → ℕ → Outcome S → Type 0
Reaches R E x f o = Outcomes (λ y g. R x y × (g ≤ f)) E o

module _ {S : Type 0} {P : S → Type 0} {R : S → S → Type 0} (E : Stop → Type 0) (w : Onwards P R) where
  pub reach-itself : (x : S) (f : ℕ) → P x → Reaches R E x f (finished x f)
  reach-itself x f v = (w.itself v, omega arith)

  pub reach-into : (n : ℕ) (x : S) (f : ℕ) (o : Outcome S) → Reaches R E x f o → Reaches R E x f (into n o)
  reach-into n x f (finished y g) h = h
  reach-into n x f (ended c s ρ p y g) h = h

  -- from where another run came
  pub reach-from : (x y : S) (f g : ℕ) (o : Outcome S) → R x y → g ≤ f → Reaches R E y g o → Reaches R E x f o
  reach-from x y f g (finished z k) r l h = (w.further r h.0, omega (arith, h.1))
  reach-from x y f g (ended c s ρ p z k) r l h = (h.0, (w.further r h.1.0, omega (arith, h.1.1)))

  pub reach-next : (x : S) (f : ℕ) (o : Outcome S) (k : S → ℕ → Outcome S) → Reaches R E x f o
      → ((y : S) (g : ℕ) → R x y → g ≤ f → Reaches R E y g (k y g)) → Reaches R E x f (next o k)
  reach-next x f (finished y g) k h b = reach-from x y f g (k y g) h.0 h.1 (b y g h.0 h.1)
  reach-next x f (ended c s ρ p y g) k h b = h

  pub reach-after : (x : S) (s : ℕ) (ρ : Variables) (f : ℕ) (c : Change S) → ChangeKeeps (R x) E c
      → Reaches R E x f (after s ρ f c)
  reach-after x s ρ f (changed y) h = (h, omega arith)
  reach-after x s ρ f (stopped c y) h = (h.0, (h.1, omega arith))

  pub reach-decide : (s : ℕ) (ρ : Variables) (t : Test) (x : S) (f : ℕ) (a b : Outcome S) → P x → TestStops E t
      → Reaches R E x f a → Reaches R E x f b → Reaches R E x f (decide s ρ t x f a b)
  reach-decide s ρ (Ok true) x f a b v h p q = p
  reach-decide s ρ (Ok false) x f a b v h p q = q
  reach-decide s ρ (Err c) x f a b v h p q = (h, (w.itself v, omega arith))

  pub reach-turns : (s : ℕ) (ρ : Variables) (holds : S → Test) (body : S → ℕ → Outcome S) → E Stop.NoFuel
      → ((y : S) → P y → TestStops E (holds y)) → ((y : S) (g : ℕ) → P y → Reaches R E y g (body y g))
      → (g : ℕ) (x : S) (f : ℕ) → P x → Reaches R E x f (turns g s ρ holds body x f)
  unfolding turns
  reach-turns s ρ holds body e h b zero x f v = (e, (w.itself v, omega arith))
  reach-turns s ρ holds body e h b (suc g) x zero v = (e, (w.itself v, omega arith))
  reach-turns s ρ holds body e h b (suc g) x (suc f) v =
      reach-from x x (suc f) f (decide s ρ (holds x) x f _ (finished x f)) (w.itself v) (omega arith)
      (reach-decide s ρ (holds x) x f _ (finished x f) v (h x v)
      (reach-next x f (body x f) _ (b x f v)
      (λ y k r l. reach-turns s ρ holds body e h b g y k (w.valid r)))
      (reach-itself x f v))

  -- K is of a new block's name and the state with it
  pub reach-let : (K : ℕ → S → Type 0) (s : ℕ) (ρ : Variables) (x : S) (f : ℕ) (r : Made S) (close : S → ℕ → S)
      (body : ℕ → S → ℕ → Outcome S) → P x → MadeKeeps K E r → ((k : ℕ) (y : S) → K k y → R x y)
      → ((k : ℕ) (y : S) → K k y → Reaches R E y f (body k y f))
      → ((k : ℕ) (y z : S) → K k y → R x z → R x (close z k))
      → Reaches R E x f (in_let s ρ x f r close body)
  reach-let K s ρ x f (unmade c) close body v h q b g = (h, (w.itself v, omega arith))
  reach-let K s ρ x f (made k y) close body v h q b g =
      closing (body k y f) (reach-from x y f f (body k y f) (q k y h) (omega arith) (b k y h))
    where
      closing : (o : Outcome S) → Reaches R E x f o → Reaches R E x f (next o (λ z e. finished (close z k) e))
      closing (finished z e) i = (g k y z h i.0, i.1)
      closing (ended c s₁ ρ₁ p z e) i = i

-- any state may follow any other
abbrev pub Anything : {S : Type 0} → S → S → Type 0
Anything x y = Unit {0}

abbrev pub AnyBlock : {S : Type 0} → S → ℕ → Type 0
AnyBlock x k = Unit {0}

pub anywhere : {S : Type 0} → Onwards {S = S} AnyState Anything
anywhere = record { valid = λ r. tt; itself = λ v. tt; further = λ r q. tt }

-- what is kept of a state, wherever the run came from
pub staying : {S : Type 0} (P : S → Type 0) → Onwards {S = S} P (λ x y. P y)
staying P = record { valid = λ r. r; itself = λ h. h; further = λ r q. q }

-- a change in a state that holds the memory, and of an assertion
pub change-in : {S : Type 0} (J : Memory → Type 0) (K : S → Type 0) (E : Stop → Type 0) (put : Memory → S)
    (c : Change Memory) → ((m : Memory) → J m → K (put m)) → ChangeKeeps J E c → ChangeKeeps K E (change_in put c)
change-in J K E put (changed m) g h = g m h
change-in J K E put (stopped c m) g h = (h.0, g m h.1)

pub made_in_lem : {S : Type 0} (J : ℕ → Memory → Type 0) (K : ℕ → S → Type 0) (E : Stop → Type 0) (put : Memory → S)
    (r : Made Memory) → ((k : ℕ) (m : Memory) → J k m → K k (put m)) → MadeKeeps J E r
    → MadeKeeps K E (made_in put r)
made_in_lem J K E put (made k m) g h = g k m h
made_in_lem J K E put (unmade c) g h = h

pub asserted-keeps : {S : Type 0} (J : S → Type 0) (E : Stop → Type 0) (x : S) (t : Test)
    → E Stop.FalseAssertion → J x → TestStops E t → ChangeKeeps J E (asserted x t)
asserted-keeps J E x (Ok true) e j h = j
asserted-keeps J E x (Ok false) e j h = (e, j)
asserted-keeps J E x (Err c) e j h = (h, j)

pub made_more : {S : Type 0} (J K : ℕ → S → Type 0) (E : Stop → Type 0) (r : Made S)
    → ((k : ℕ) (x : S) → J k x → K k x) → MadeKeeps J E r → MadeKeeps K E r
made_more J K E (made k x) g h = g k x h
made_more J K E (unmade c) g h = h

-- so of what follows a child, and of a choice among children
pub next-ending : {S : Type 0} (n : ℕ) (o : Outcome S) (k l : S → ℕ → Outcome S)
    → ((x : S) (f : ℕ) → ending (k x f) ≡ ending (l x f)) → ending (next (into n o) k) ≡ ending (next o l)
next-ending n (finished x f) k l h = h x f
next-ending n (ended c s ρ w x f) k l h = refl

pub decide-ending : {S : Type 0} (s : ℕ) (ρ : Variables) (t : Test) (x : S) (f : ℕ) (a b c d : Outcome S)
    → ending a ≡ ending c → ending b ≡ ending d → ending (decide s ρ t x f a b) ≡ ending (decide s ρ t x f c d)
decide-ending s ρ (Ok true) x f a b c d p q = p
decide-ending s ρ (Ok false) x f a b c d p q = q
decide-ending s ρ (Err k) x f a b c d p q = refl
