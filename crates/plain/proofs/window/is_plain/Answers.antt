use Rattle.std.proofs.Common.{arith}
use Rattle.zone.proofs.Domain.{date_small}
use Rattle.plain.proofs.Looking.{midnight_by, no_yesterday, early_start, as_run}
use Rattle.plain.proofs.window.is_plain.Goals as goal

pub returns-then-date-eq0 : goal.returns-then-date-eq0
returns-then-date-eq0 c = no_yesterday _ _ _ _ _ c.requires c.day_at-date.ensures c.if-date-eq0.true

pub returns-then-window-opening : goal.returns-then-window-opening
returns-then-window-opening c =
    early_start _ _ _ _ _ c.requires c.day_at-date.ensures (midnight_by _ _ c.to_utc_at-opening.ensures) c.if-window-opening.true

pub reaches-requires : goal.reaches-requires
reaches-requires c =
    let clock = c.args.clock.now in
    omega (arith, c.day_at-date.ensures, date_small clock.offset0 clock.ats.now clock.offsets.now c.args.window.start.0 clock.valid)

pub returns : goal.returns
returns c =
    as_run _ _ _ _ _ c.requires c.day_at-date.ensures (midnight_by _ _ c.to_utc_at-opening.ensures) c.if-date-eq0.false c.if-window-opening.false
    c.reaches.ensures
