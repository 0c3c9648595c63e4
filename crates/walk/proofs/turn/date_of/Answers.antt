use Rattle.walk.proofs.Shifting.{cursor_on, cursor_date}
use Rattle.walk.proofs.turn.date_of.Goals as goal

pub steady_day-requires : goal.steady_day-requires
steady_day-requires c =
    let clock = c.args.clock.now in
    cursor_on clock.offset0 clock.ats.now clock.offsets.now clock.valid c.args.cursor.0 c.requires c.in-Some.is

pub returns-in-Some : goal.returns-in-Some
returns-in-Some c =
    let clock = c.args.clock.now in
    cursor_date clock.offset0 clock.ats.now clock.offsets.now clock.valid c.args.cursor.0 c.requires c.in-Some.is c.steady_day.ensures
