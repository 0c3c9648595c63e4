-- No refusal has the number 0, and no two have one number. Assumes nothing.
use mathlib.Core.Path.{◌≡◌, refl, sym, ap, ◌∙◌}
use Prim.Native.Nat.{ℕ}
use mathlib.Core.Bool.{cond}
use lib.Dec.{eqb}
use native.Mathlib.Omega.{arith}
use Rattle.lend.specs.Refusals.{number}
use Rattle.lend.specs.declared.refusal.Refusal.{Refusal}
use Rattle.lend.specs.declared.refusal.Refusal.TheVariants.{BookTooLong, BadFrame, TooMany, BadField, LateStart, PointsFall, DaysReversed, CoversNothing, TooClose, Outside, WindowReversed, WindowEmpty, TallyTooLong, TooManyColumns, BadRow, NoRoom}

pub refuses : (r : Refusal) → number r ≡ 0 → ⊥
refuses BookTooLong e = omega arith
refuses BadFrame e = omega arith
refuses TooMany e = omega arith
refuses BadField e = omega arith
refuses LateStart e = omega arith
refuses PointsFall e = omega arith
refuses DaysReversed e = omega arith
refuses CoversNothing e = omega arith
refuses TooClose e = omega arith
refuses Outside e = omega arith
refuses WindowReversed e = omega arith
refuses WindowEmpty e = omega arith
refuses TallyTooLong e = omega arith
refuses TooManyColumns e = omega arith
refuses BadRow e = omega arith
refuses NoRoom e = omega arith

-- the refusal that has a number
abbrev by_number : ℕ → Refusal
by_number n =
    cond (eqb n 1) BookTooLong
    (cond (eqb n 2) BadFrame
    (cond (eqb n 3) TooMany
    (cond (eqb n 4) BadField
    (cond (eqb n 5) LateStart
    (cond (eqb n 6) PointsFall
    (cond (eqb n 7) DaysReversed
    (cond (eqb n 8) CoversNothing
    (cond (eqb n 9) TooClose
    (cond (eqb n 10) Outside
    (cond (eqb n 11) WindowReversed
    (cond (eqb n 12) WindowEmpty
    (cond (eqb n 13) TallyTooLong
    (cond (eqb n 14) TooManyColumns
    (cond (eqb n 15) BadRow NoRoom))))))))))))))

back : (r : Refusal) → by_number (number r) ≡ r
back BookTooLong = refl
back BadFrame = refl
back TooMany = refl
back BadField = refl
back LateStart = refl
back PointsFall = refl
back DaysReversed = refl
back CoversNothing = refl
back TooClose = refl
back Outside = refl
back WindowReversed = refl
back WindowEmpty = refl
back TallyTooLong = refl
back TooManyColumns = refl
back BadRow = refl
back NoRoom = refl

pub number_once : (r s : Refusal) → number r ≡ number s → r ≡ s
number_once r s e = sym (back r) ∙ ap by_number e ∙ back s
