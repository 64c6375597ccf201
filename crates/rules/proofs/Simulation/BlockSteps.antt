-- How the two runs go together through a new block and a let.
use Prim.Native.Nat.{ℕ, zero, suc}
use native.Mathlib.Omega.{arith}
use mathlib.Core.Path.{◌≡◌, refl, ap, ◌∙◌}
use lib.IntN.{pos, negsuc}
use lib.Seq.{get_or-set_same}
use Rattle.std.specs.Prelude.{Err, None, Ok, Some}
use Rattle.rules.specs.Types.{Pointer, Value, Evaluated, Found, Located, Search, Block, Cell, Miss}
use Rattle.rules.specs.Memory.{Memory, recorded_of, block_of, locate, read_cell, set_cell, next_name, free_run, fixed}
use Rattle.rules.specs.Memory.{freeable, with_block, made_in, make_at, end_block, on_place, store_new, allocated}
use Rattle.rules.specs.Evaluation.{Variables, pointed_by, address_of}
use Rattle.rules.specs.Observation.{Observation, noted, store_block, initialise, pointer_to, mirror}
use Rattle.rules.specs.Flow.{Outcome, finished, ending, into, next, after, in_let}
use Rattle.rules.specs.Watched.{Temporaries, temporary_of, held_in, WatchedState, watching, with_memory, taken}
use Rattle.rules.specs.Watched.{observed, called_on, called_on_two}
use Rattle.rules.proofs.Runs.TargetRuns.{storing, deleting, initialising, closing}
use Rattle.rules.proofs.Memory.Invariant.{Invariant, Onward}
use Rattle.rules.proofs.Memory.Pointing.{Leads, leads}
use Rattle.rules.proofs.Memory.Room.{Room, HasRoom, room}
use Rattle.rules.proofs.Memory.BlockChanges.{onward-make}
use Rattle.rules.proofs.Memory.MemoryLaws.{named-set_named-same}
use Rattle.rules.proofs.Simulation.Mirror.{mirror-initialise, mirror-store, mirror-delete}
use Rattle.rules.proofs.Simulation.PredicateSimulation.{Full, put, full_put, put_same, put_other}
use Rattle.rules.proofs.Simulation.StatementSteps.{Watching, Running, Agree, both-finish, both_end, Agreeing}
use Rattle.rules.proofs.Simulation.StatementSteps.{agree-within}
use Rattle.rules.proofs.Simulation.StatementSteps.{stored}
use Rattle.rules.proofs.Simulation.StatementSteps.{changing}

-- a new block: made, its pointer stored and read back, the block recorded, the pointer's cell marked
abbrev record_after : ℕ → Variables → Watching
record_after s ρ x f =
    into 1 (next (into 0 (after s ρ f (taken x 1
    (on_place (pointed_by (held_in x.temporaries 0)) Err (read_cell x.memory))))) (λ y g.
    into 1 (next (into 0 (after s ρ g (observed y (storing 1 y)))) (λ z h.
    into 1 (after s ρ h (observed z (initialising 0 z)))))))

record_after-is : (s : ℕ) (ρ : Variables) (m : Memory) (o o₁ o₂ : Observation) (τ : Temporaries) (f : ℕ) (v : Value)
    → on_place (pointed_by (held_in τ 0)) Err (read_cell m) ≡ Ok v
    → called_on_two (held_in (put τ 1 v) 1) (held_in (put τ 1 v) 2) (store_block o) ≡ noted o₁
    → called_on (held_in (put τ 1 v) 0) (initialise o₁) ≡ noted o₂
    → record_after s ρ (watching m o τ) f ≡ finished (watching m o₂ (put τ 1 v)) f
record_after-is s ρ m o o₁ o₂ τ f v a b c = rw (a, b, c) refl

locate-set : (m : Memory) (i : ℕ) (c : Cell) (p : Pointer) → locate (set_cell m i c) p ≡ locate m p
unfolding locate
locate-set m i c p = refl

-- the cell that a pointer leads to, after a store
read_back : (m : Memory) (p q : Pointer) (i : ℕ) → locate m p ≡ Ok i → Invariant m
    → read_cell (set_cell m i (Cell.Holds p.name (Value.Pointer q))) p ≡ Ok (Value.Pointer q)
read_back m p q i e y =
    let c : Cell = Cell.Holds p.name (Value.Pointer q) in
    let at : Leads m p.name (Ok i) = rw e at (leads m p y) in
    rw (locate-set m i c p ∙ e, get_or-set_same m.cells i c Cell.Free (omega (arith, y.size, at.1))) refl

agree-stored : (s : ℕ) (ρ : Variables) (m : Memory) (τ : Temporaries) (f : ℕ) (p : Pointer) (n k first : ℕ)
    (r : Located)
    → Room m (suc n) k first → free_run m (suc n) ≡ Some first → Invariant m
    → locate (with_block m freeable k first (suc n)) p ≡ r
    → temporary_of τ 0 ≡ Some (Value.Pointer p)
    → temporary_of τ 2 ≡ Some (Value.Integer (pos (suc n)))
    → Full τ
    → let c = stored (with_block m freeable k first (suc n)) p (pointer_to k 0) r in
    Agree (after s ρ f c) (next (changing s ρ (watching m (mirror m) τ) f c) (record_after s ρ))
agree-stored s ρ m τ f p n k first (Err Miss.Dead) h g y e t₀ t₂ l =
    both_end (λ d. absurd (d.0 refl))
agree-stored s ρ m τ f p n k first (Err Miss.Outside) h g y e t₀ t₂ l =
    both_end (λ d. absurd (d.1 refl))
agree-stored s ρ m τ f p n k first (Ok i) h g y e t₀ t₂ l =
    rw (record_after-is s ρ (set_cell m₁ i (Cell.Holds p.name (pointer_to k 0))) (mirror m) (mirror m₁) o₂ τ f
    (pointer_to k 0) back record-block mark) (both-finish refl (full_put τ 1 (pointer_to k 0) l))
  where
    m₁ : Memory
    m₁ = with_block m freeable k first (suc n)

    o₂ : Observation
    o₂ = mirror (set_cell m₁ i (Cell.Holds p.name (pointer_to k 0)))

    back : on_place (pointed_by (held_in τ 0)) Err
        (read_cell (set_cell m₁ i (Cell.Holds p.name (pointer_to k 0))))
        ≡ Ok (pointer_to k 0)
    back =
        rw t₀ (read_back m₁ p (record { name = k; offset = pos 0 }) i e
        (onward-make m freeable (suc n) k first h y).invariant)

    record-block : called_on_two (held_in (put τ 1 (pointer_to k 0)) 1) (held_in (put τ 1 (pointer_to k 0)) 2)
        (store_block (mirror m))
        ≡ noted (mirror m₁)
    record-block =
        rw (put_same τ 1 (pointer_to k 0) l (omega arith), put_other τ 1 2 (pointer_to k 0) (omega arith) ∙ t₂)
        (mirror-store m freeable n k first y h.unused g)

    mark : called_on (held_in (put τ 1 (pointer_to k 0)) 0) (initialise (mirror m₁)) ≡ noted o₂
    mark =
        rw (put_other τ 1 0 (pointer_to k 0) (omega arith) ∙ t₀) (mirror-initialise m₁ p i (pointer_to k 0) tt e)

agree-new : (s : ℕ) (ρ : Variables) (m : Memory) (τ : Temporaries) (f : ℕ) (p : Pointer) (n : ℕ) (r₁ r₂ : Search)
    → HasRoom m (suc n) r₁ r₂
    → free_run m (suc n) ≡ r₂ → Invariant m
    → temporary_of τ 0 ≡ Some (Value.Pointer p)
    → temporary_of τ 2 ≡ Some (Value.Integer (pos (suc n)))
    → Full τ
    → let c = store_new m p (make_at m freeable (suc n) r₁ r₂) in
    Agree (after s ρ f c) (next (changing s ρ (watching m (mirror m) τ) f c) (record_after s ρ))
agree-new s ρ m τ f p n None r₂ h g y t₀ t₂ l = both_end (λ z. refl)
agree-new s ρ m τ f p n (Some k) None h g y t₀ t₂ l = both_end (λ z. refl)
agree-new s ρ m τ f p n (Some k) (Some first) h g y t₀ t₂ l =
    agree-stored s ρ m τ f p n k first (locate (with_block m freeable k first (suc n)) p) h g y refl t₀ t₂ l

pub agree-allocated : (s : ℕ) (ρ : Variables) (m : Memory) (τ : Temporaries) (f : ℕ) (x : Found) (r : Evaluated)
    (x₁ : WatchedState → Found) (r₁ : WatchedState → Evaluated) → Invariant m → Full τ
    → ((t : Temporaries) → x₁ (watching m (mirror m) t) ≡ x) → ((t : Temporaries) → r₁ (watching m (mirror m) t) ≡ r)
    → Agree (after s ρ f (allocated m x r))
    (next (into 0 (after s ρ f (taken (watching m (mirror m) τ) 0 (address_of (x₁ (watching m (mirror m) τ)))))) (λ y g.
    into 1 (next (into 0 (after s ρ g (taken y 2 (r₁ y)))) (λ z h.
    into 1 (next (changing s ρ z h (allocated z.memory (x₁ z) (r₁ z))) (record_after s ρ))))))
agree-allocated s ρ m τ f (Err c) r x₁ r₁ y l h g = rw (h τ) (both_end (λ z. refl))
agree-allocated s ρ m τ f (Ok p) (Err c) x₁ r₁ y l h g =
    rw (h τ, g (put τ 0 (Value.Pointer p))) (both_end (λ z. refl))
agree-allocated s ρ m τ f (Ok p) (Ok v) x₁ r₁ y l h g =
    rw (
      h τ,
      g (put τ 0 (Value.Pointer p)),
      h (put (put τ 0 (Value.Pointer p)) 2 v),
      g (put (put τ 0 (Value.Pointer p)) 2 v),
    ) (agree-within 1 (agree-within 1 (go v)))
  where
    go : (v : Value)
        → let c = allocated m (Ok p) (Ok v) in
        Agree (after s ρ f c)
        (next (changing s ρ (watching m (mirror m) (put (put τ 0 (Value.Pointer p)) 2 v)) f c) (record_after s ρ))
    go Value.Undefined = both_end (λ z. refl)
    go (Value.Integer (pos zero)) = both_end (λ z. refl)
    go (Value.Integer (pos (suc n))) =
        agree-new s ρ m (put (put τ 0 (Value.Pointer p)) 2 (Value.Integer (pos (suc n)))) f p n (next_name m)
        (free_run m (suc n)) (room m (suc n)) refl y
        (put_other (put τ 0 (Value.Pointer p)) 2 0 (Value.Integer (pos (suc n))) (omega arith)
        ∙ put_same τ 0 (Value.Pointer p) l (omega arith))
        (put_same (put τ 0 (Value.Pointer p)) 2 (Value.Integer (pos (suc n))) (full_put τ 0 (Value.Pointer p) l)
        (omega arith))
        (full_put (put τ 0 (Value.Pointer p)) 2 (Value.Integer (pos (suc n))) (full_put τ 0 (Value.Pointer p) l))
    go (Value.Integer (negsuc n)) = both_end (λ z. refl)
    go (Value.Pointer q) = both_end (λ z. refl)

-- a let: its block is recorded before the body and deleted after it
abbrev remove_after : ℕ → Variables → ℕ → Watching
remove_after s ρ j x f =
    into 1 (next (into 0 (after s ρ f (taken x 0 (Ok (pointer_to j 0))))) (λ y g.
    into 1 (after s ρ g (observed y (deleting 0 y)))))

remove_after-is : (s : ℕ) (ρ : Variables) (k first n : ℕ) (m : Memory) (τ : Temporaries) (f : ℕ)
    → block_of m k ≡ Block.Fixed first n → Full τ
    → remove_after s ρ k (watching m (mirror m) τ) f
    ≡ finished (watching m (mirror (end_block m k)) (put τ 0 (pointer_to k 0))) f
remove_after-is s ρ k first n m τ f e l =
    rw (put_same τ 0 (pointer_to k 0) l (omega arith), mirror-delete m k first n (ap recorded_of e)) refl

let-end : (s : ℕ) (ρ : Variables) (m : Memory) (k first : ℕ) {p : Outcome Memory} {w : Outcome WatchedState} → Agree p w
    → Onward m (ending p).state → block_of m k ≡ Block.Fixed first 1
    → Agree (next (into 0 p) (λ m₂ f₂. finished (end_block m₂ k) f₂))
    (next (into 0 (into 1 (into 1 (into 1 (next (into 0 w) (remove_after s ρ k)))))) (λ x g. finished (closing x k) g))
let-end s ρ m k first (both-finish {m = m₂} {o} {τ} {f} e l) h g =
    let there : block_of m₂ k ≡ Block.Fixed first 1 = rw g at (h.becomes k) in
    rw (e, remove_after-is s ρ k first 1 m₂ τ f there l) (both-finish refl (full_put τ 0 (pointer_to k 0) l))
let-end s ρ m k first (both_end h) y g = both_end h

pub agree-let : (s : ℕ) (ρ : Variables) (m : Memory) (τ : Temporaries) (f : ℕ) (inner : ℕ → Variables) (at : ℕ → ℕ)
    (b : ℕ → Running) (bw : ℕ → Watching)
    (r₁ r₂ : Search) → HasRoom m 1 r₁ r₂ → free_run m 1 ≡ r₂ → Invariant m → Full τ → ((k : ℕ) → at k ≡ k)
    → ((k : ℕ) → Agreeing (b k) (bw k))
    → ((k : ℕ) (m₁ : Memory) (f₁ : ℕ) → Invariant m₁ → Onward m₁ (ending (b k m₁ f₁)).state)
    → Agree (in_let s ρ m f (make_at m fixed 1 r₁ r₂) end_block (λ k m₁ f₁. into 0 (b k m₁ f₁)))
    (in_let s ρ (watching m (mirror m) τ) f
    (made_in (with_memory (watching m (mirror m) τ)) (make_at m fixed 1 r₁ r₂)) closing
    (λ k x g. into 0
    (next (into 0 (after s (inner k) g (taken x 0 (Ok (pointer_to (at k) 0))))) (λ x₁ g₁.
    into 1 (next (into 0 (after s (inner k) g₁ (taken x₁ 1 (Ok (Value.Integer (pos 1)))))) (λ x₂ g₂.
    into 1 (next (into 0 (after s (inner k) g₂ (observed x₂ (storing 0 x₂)))) (λ x₃ g₃.
    into 1 (next (into 0 (bw k x₃ g₃)) (remove_after s (inner k) (at k)))))))))))
agree-let s ρ m τ f inner at b bw None r₂ h g y l e i v = both_end (λ z. refl)
agree-let s ρ m τ f inner at b bw (Some k) None h g y l e i v = both_end (λ z. refl)
agree-let s ρ m τ f inner at b bw (Some k) (Some first) h g y l e i v =
    rw (
      e k,
      put_other (put τ 0 (pointer_to k 0)) 1 0 (Value.Integer (pos 1)) (omega arith)
          ∙ put_same τ 0 (pointer_to k 0) l (omega arith),
      put_same (put τ 0 (pointer_to k 0)) 1 (Value.Integer (pos 1)) (full_put τ 0 (pointer_to k 0) l) (omega arith),
      mirror-store m fixed 0 k first y h.unused g,
    )
    (let-end s (inner k) m₁ k first
    (i k m₁ (put (put τ 0 (pointer_to k 0)) 1 (Value.Integer (pos 1))) f
    (onward-make m fixed 1 k first h y).invariant
    (full_put (put τ 0 (pointer_to k 0)) 1 (Value.Integer (pos 1)) (full_put τ 0 (pointer_to k 0) l)))
    (v k m₁ f (onward-make m fixed 1 k first h y).invariant)
    (named-set_named-same m.blocks k (Block.Fixed first 1) Block.Dead h.from (omega (arith, h.to, y.names))))
  where
    m₁ : Memory
    m₁ = with_block m fixed k first 1
