use Rattle.std.proofs.Common.{sym, ◌∙◌, arith}
use Rattle.zone.proofs.Shifts.{steady_in}
use Rattle.events.proofs.steady.collect.Goals as goal

pub on_steady_dates-requires : goal.on_steady_dates-requires
on_steady_dates-requires c =
    let forward = c.if-span.false in
    let on_wall = steady_in _ _ _ c.args.clock.now.valid _ _ _ forward (sym c.steady_offset.ensures ∙ c.in_ok-offset.was) in
    (on_wall _ (omega arith) forward, on_wall _ forward (omega arith), forward)
