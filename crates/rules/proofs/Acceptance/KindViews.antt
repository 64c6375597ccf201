-- The kinds of each language as a view, by sort: one constructor for each, so that a match makes the kind a literal.
use Prim.Native.Nat.{ℕ}
use mathlib.Core.Bool.{Bool, true, false, ◌&&◌}
use mathlib.Core.List.{List, [], ◌∷◌}
use mathlib.Core.Option.{Option, none, some}
use mathlib.Core.Path.{◌≡◌, refl, sym, subst}
use borrow.Author.Tests.{eqb-true}
use lib.Dec.{eqb}
pub use Rattle.rules.proofs.Lists.BooleanLaws.{and_split}
use Rattle.rules.proofs.Lists.BooleanLaws.{and_split}
use Rattle.rules.specs.Kinds.{Language, source, target, Sort, expression, place, term, predicate, statement}
use Rattle.rules.specs.Kinds.{unnamed, zero_literal, Form, form, forms, look_up, form_of}

-- what holds of every form of a list holds of the one found
abbrev pub Each : (Form → Type 0) → List Form → Type 0
Each P [] = Unit {0}
Each P (f ∷ fs) = P f × Each P fs

abbrev Found : (Form → Type 0) → Option Form → Type 0
Found P none = Unit {0}
Found P (some f) = P f

found_in : (P : Form → Type 0) (fs : List Form) (k : ℕ) → Each P fs → Found (λ f. P f × (k ≡ f.kind)) (look_up k fs)
unfolding look_up
found_in P [] k h = tt
found_in P (f ∷ fs) k h = go (eqb k f.kind) refl (found_in P fs k h.1)
  where
    go : (b : Bool) → eqb k f.kind ≡ b → Found (λ g. P g × (k ≡ g.kind)) (look_up k fs)
        → Found (λ g. P g × (k ≡ g.kind)) (elim b as (λ x. Option Form) [ true ↦ some f | false ↦ look_up k fs ])
    go true e ih = (h.0, eqb-true k f.kind e)
    go false e ih = ih

pub found-form : (P : Form → Type 0) (l : Language) (k : ℕ) (f : Form) → Each P (forms l) → form_of l k ≡ some f
    → P f × (k ≡ f.kind)
unfolding form_of
found-form P l k f h e = subst (Found (λ g. P g × (k ≡ g.kind))) e (found_in P (forms l) k h)

-- the form of kind k, where k is one: it computes at a literal
abbrev pub form_in : List Form → ℕ → Form
form_in [] k = form k statement unnamed [] zero_literal
form_in (f ∷ fs) k = elim (eqb k f.kind) [ true ↦ f | false ↦ form_in fs k ]

abbrev pub form_at : Language → ℕ → Form
form_at l k = form_in (forms l) k

found-is : (fs : List Form) (k : ℕ) → Found (λ f. f ≡ form_in fs k) (look_up k fs)
unfolding look_up
found-is [] k = tt
found-is (f ∷ fs) k = go (eqb k f.kind) (found-is fs k)
  where
    go : (b : Bool) → Found (λ g. g ≡ form_in fs k) (look_up k fs)
        → Found (λ g. g ≡ elim b as (λ x. Form) [ true ↦ f | false ↦ form_in fs k ])
        (elim b as (λ x. Option Form) [ true ↦ some f | false ↦ look_up k fs ])
    go true ih = refl
    go false ih = ih

pub found_at : (l : Language) (k : ℕ) (f : Form) → form_of l k ≡ some f → f ≡ form_at l k
unfolding form_of
found_at l k f e = subst (Found (λ g. g ≡ form_at l k)) e (found-is (forms l) k)

-- the same for a test
abbrev pub every : (Form → Bool) → List Form → Bool
every p [] = true
every p (f ∷ fs) = p f && every p fs

each_of : (p : Form → Bool) (fs : List Form) → every p fs ≡ true → Each (λ f. p f ≡ true) fs
each_of p [] h = tt
each_of p (f ∷ fs) h =
    let r = and_split (p f) (every p fs) h in
    (r.0, each_of p fs r.1)

pub found-passes : (p : Form → Bool) (l : Language) (k : ℕ) (f : Form) → every p (forms l) ≡ true → form_of l k ≡ some f
    → p f ≡ true
found-passes p l k f h e = (found-form (λ g. p g ≡ true) l k f (each_of p (forms l) h) e).0

pub data SourceKind : Sort → ℕ → Type 0 where
  literal : SourceKind expression 1
  read : SourceKind expression 2
  address : SourceKind expression 3
  operation : SourceKind expression 4
  shifted : SourceKind expression 5
  variable : SourceKind place 10
  pointed : SourceKind place 11
  value : SourceKind term 20
  base : SourceKind term 21
  offset : SourceKind term 22
  block_length : SourceKind term 23
  combined : SourceKind term 24
  valid : SourceKind predicate 30
  initialised : SourceKind predicate 31
  compared : SourceKind predicate 32
  negated : SourceKind predicate 33
  both : SourceKind predicate 34
  either : SourceKind predicate 35
  skip : SourceKind statement 40
  assign : SourceKind statement 41
  new : SourceKind statement 42
  free : SourceKind statement 43
  sequence : SourceKind statement 44
  branch : SourceKind statement 45
  while : SourceKind statement 46
  let_in : SourceKind statement 47
  assert : SourceKind statement 48

pub data TargetKind : Sort → ℕ → Type 0 where
  literal : TargetKind expression 1
  read : TargetKind expression 2
  address : TargetKind expression 3
  operation : TargetKind expression 4
  shifted : TargetKind expression 5
  variable : TargetKind place 10
  pointed : TargetKind place 11
  temporary : TargetKind place 12
  skip : TargetKind statement 40
  assign : TargetKind statement 41
  new : TargetKind statement 42
  free : TargetKind statement 43
  sequence : TargetKind statement 44
  branch : TargetKind statement 45
  while : TargetKind statement 46
  let_in : TargetKind statement 47
  take_address : TargetKind statement 60
  take_value : TargetKind statement 61
  take_operation : TargetKind statement 63
  take_query : TargetKind statement 64
  take_not : TargetKind statement 65
  branch_on : TargetKind statement 66
  assert_on : TargetKind statement 67
  store_block : TargetKind statement 68
  delete_block : TargetKind statement 69
  initialise : TargetKind statement 70

abbrev pub KindOf : Language → Sort → ℕ → Type 0
KindOf source s k = SourceKind s k
KindOf target s k = TargetKind s k

each-kind : (l : Language) → Each (λ f. KindOf l f.sort f.kind) (forms l)
each-kind source = (
  literal,
  (
    read,
    (
      address,
      (
        operation,
        (
          shifted,
          (
            variable,
            (
              pointed,
              (
                value,
                (
                  base,
                  (
                    offset,
                    (
                      block_length,
                      (
                        combined,
                        (
                          valid,
                          (
                            initialised,
                            (
                              compared,
                              (
                                negated,
                                (
                                  both,
                                  (
                                    either,
                                    (skip, (assign, (new, (free, (sequence, (branch, (while, (let_in, (assert, tt))))))))),
                                  ),
                                ),
                              ),
                            ),
                          ),
                        ),
                      ),
                    ),
                  ),
                ),
              ),
            ),
          ),
        ),
      ),
    ),
  ),
)
each-kind target = (
  literal,
  (
    read,
    (
      address,
      (
        operation,
        (
          shifted,
          (
            variable,
            (
              pointed,
              (
                temporary,
                (
                  skip,
                  (
                    assign,
                    (
                      new,
                      (
                        free,
                        (
                          sequence,
                          (
                            branch,
                            (
                              while,
                              (
                                let_in,
                                (
                                  take_address,
                                  (
                                    take_value,
                                    (
                                      take_operation,
                                      (
                                        take_query,
                                        (
                                          take_not,
                                          (
                                            branch_on,
                                            (
                                              assert_on,
                                              (store_block, (delete_block, (initialise, tt))),
                                            ),
                                          ),
                                        ),
                                      ),
                                    ),
                                  ),
                                ),
                              ),
                            ),
                          ),
                        ),
                      ),
                    ),
                  ),
                ),
              ),
            ),
          ),
        ),
      ),
    ),
  ),
)

-- the view of a kind that its language has
pub kind-view : (l : Language) (k : ℕ) (f : Form) → form_of l k ≡ some f → KindOf l f.sort k
kind-view l k f e =
    let r = found-form (λ g. KindOf l g.sort g.kind) l k f (each-kind l) e in
    subst (KindOf l f.sort) (sym r.1) r.0

pub found-kind : (l : Language) (k : ℕ) (f : Form) → form_of l k ≡ some f → k ≡ f.kind
found-kind l k f e = (found-form (λ g. KindOf l g.sort g.kind) l k f (each-kind l) e).1
