use Rattle.std.proofs.Common.{length, sym, ap, arith}
use Rattle.zone.specs.Clocks.{zone_in}
use Rattle.events.proofs.Turns.{begun_count}
use Rattle.events.proofs.Finding.{none_found}
use Rattle.events.proofs.Few.{found_few}
use Rattle.events.proofs.Collecting.{collects_all}
use Rattle.events.proofs.seek.count_events.Goals as goal

pub returns-then-events-eq0 : goal.returns-then-events-eq0
returns-then-events-eq0 c =
    let events = c.args.events.now in
    let none = none_found (zone_in c.args.clock.now) events.book.now events.places.now c.args.span.start.0 c.args.span.end.0 c.if-events-eq0.true in
    (sym (ap length none), omega arith)

pub returns-in-Some : goal.returns-in-Some
returns-in-Some c =
    let clock = c.args.clock.now in
    let events = c.args.events.now in
    let all = collects_all _ _ _ _ _ clock.valid events.listed _ _ c.collect.ensures c.in-Some.is in
    let few = found_few _ _ _ _ _ clock.valid events.listed events.few c.args.span.start.0 c.args.span.end.0 in
    (all.count, omega (arith, all.count, few))

pub returns-in-None : goal.returns-in-None
returns-in-None c = (begun_count 0 0 _ c.search_events.ensures.0, c.search_events.ensures.1)
