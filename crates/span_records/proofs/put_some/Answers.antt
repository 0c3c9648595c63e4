use Rattle.std.proofs.Common.{arith}
use Rattle.events.proofs.Collecting.{collects_all}
use Rattle.span_records.proofs.Kept.{held_put}
use Rattle.span_records.proofs.put_some.Goals as goal

pub put_kept-requires : goal.put_kept-requires
put_kept-requires c =
    let held = collects_all _ _ _ _ _ c.args.clock.now.valid c.args.events.now.listed _ _ c.collect.ensures c.in-Some.is in
    let few = c.if-n-le-MOST_KEPT_EVENTS.true in
    (omega arith, omega arith, held.there few, omega (arith, c.requires, held.count))

pub returns-in-Some : goal.returns-in-Some
returns-in-Some c =
    let held = collects_all _ _ _ _ _ c.args.clock.now.valid c.args.events.now.listed _ _ c.collect.ensures c.in-Some.is in
    let few = c.if-n-le-MOST_KEPT_EVENTS.true in
    record { put = held_put held few few c.put_kept.ensures; count = held.count }
