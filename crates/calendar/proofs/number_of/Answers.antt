use Rattle.std.proofs.Common.{◌+◌, Some, sym, ap, ◌∙◌, arith, w32}
use mir.Val.{SFits}
use mir.Facts.{to_z-of_z}
use Rattle.calendar.specs.Answers.{within}
use Rattle.calendar.proofs.Dates.{day_zero, day_placed, within_yes, within_low, within_high}
use Rattle.calendar.proofs.number_of.Goals as goal

pub returns-then-n-lt-FIRST_DAY : goal.returns-then-n-lt-FIRST_DAY
returns-then-n-lt-FIRST_DAY c =
    let n = c.args.d.0 in
    sym (ap within (day_placed n) ∙ within_low (n + day_zero) (omega arith))

pub returns-then-n-gt-LAST_DAY : goal.returns-then-n-gt-LAST_DAY
returns-then-n-gt-LAST_DAY c =
    let n = c.args.d.0 in
    sym (ap within (day_placed n) ∙ within_high (n + day_zero) (omega arith))

pub returns : goal.returns
returns c =
    let n = c.args.d.0 in
    let fits : SFits w32 c.from.result = record { sfits = c.from.type_inv } in
    ap Some (to_z-of_z fits ∙ c.from.ensures)
    ∙ sym (ap within (day_placed n) ∙ within_yes (n + day_zero) (omega arith) (omega arith))
