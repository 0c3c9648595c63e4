use Rattle.std.proofs.Common.{◌≡◌, ◌+◌, ◌-◌, ℕ, ℤ, Some, sym, ap, ◌∙◌, arith, w32}
use mir.Facts.{to_z-of_z, sfits_to_z, Fits-of_z}
use mir.Val.{SFits, to_z, of_z}
use Rattle.wire.specs.Signs.{placed, meant}
use Rattle.wire.proofs.Signs.{meant_placed}
use Rattle.calendar.specs.Answers.{within}
use Rattle.calendar.proofs.Dates.{day_zero, day_placed, within_yes, within_low, within_high}
use Rattle.calendar.proofs.day_of.Goals as goal

-- the placed number means the number that was asked for
is : (n : ℤ) (p : ℕ) → SFits w32 n → p ≡ placed w32 (to_z w32 (of_z w32 n)) → meant w32 p ≡ n
is n p fits e = ap (meant w32) e ∙ meant_placed w32 _ (sfits_to_z (Fits-of_z fits)) ∙ to_z-of_z fits

pub returns-then-placed : goal.returns-then-placed
returns-then-placed c =
    let p = c.from-placed.result.0 in
    sym (ap within (sym (is c.args.number p c.ranges.number c.from-placed.ensures)) ∙ within_low p c.if-placed.true)

pub returns-then-placed-2 : goal.returns-then-placed-2
returns-then-placed-2 c =
    let p = c.from-placed.result.0 in
    sym (ap within (sym (is c.args.number p c.ranges.number c.from-placed.ensures)) ∙ within_high p c.if-placed-2.true)

pub returns : goal.returns
returns c =
    let p = c.from-placed.result.0 in
    let z : p - day_zero + day_zero ≡ p = omega arith in
    ap Some (day_placed (p - day_zero) ∙ ap (meant w32) z)
    ∙ sym (ap within (sym (is c.args.number p c.ranges.number c.from-placed.ensures)) ∙ within_yes p (omega arith) (omega arith))
