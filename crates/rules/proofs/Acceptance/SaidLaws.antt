-- What a rule says of a record, and the tests of it.
use mathlib.Core.Bool.{Bool, true, false, cond, true≢false, false≢true}
use mathlib.Core.Path.{◌≡◌, refl, ap}
use Rattle.std.specs.Prelude.{Result, Ok, Err, is_ok, is_err}
use Rattle.rules.specs.Types.{Rule}

pub err-is-not-ok : {A E : Type 0} {x : E} {y : A} → Err x ≡ Ok y → ⊥
err-is-not-ok h = false≢true (ap is_ok h)

pub kept-ok : {r : Result Unit Rule} → r ≡ Ok tt → is_ok r ≡ true
kept-ok h = ap is_ok h

pub kept-no-err : {r : Result Unit Rule} → r ≡ Ok tt → is_err r ≡ false
kept-no-err h = ap is_err h

pub ok-kept : (r : Result Unit Rule) → is_ok r ≡ true → r ≡ Ok tt
ok-kept (Ok u) h = refl
ok-kept (Err x) h = absurd (false≢true h)

pub no-err-kept : (r : Result Unit Rule) → is_err r ≡ false → r ≡ Ok tt
no-err-kept (Ok u) h = refl
no-err-kept (Err x) h = absurd (true≢false h)

-- 4 and 5 of a record, by whether its fields and its children fit
abbrev pub faults : Bool → Bool → Result Unit Rule
faults p q = cond p (cond q (Ok tt) (Err Rule.Child)) (Err Rule.Field)
