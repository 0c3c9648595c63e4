use Rattle.std.proofs.Common.{arith}
use Rattle.zone.proofs.Domain.{date_small}
use Rattle.zone.specs.Clocks.{zone_in}
use Rattle.venue.specs.Values.{rules_in}
use Rattle.day.specs.Governing.{governing_rule}
use Rattle.day.specs.Days.{venue_by}
use Rattle.day.proofs.Points.{point_before, point_behind, by_first, by_second, by_third}
use Rattle.day.proofs.resolve.resolve_phase.Goals as goal

pub returns-then-t-coverage : goal.returns-then-t-coverage
returns-then-t-coverage c = (point_before (venue_by (zone_in c.args.clock.now) (governing_rule (rules_in c.args.rules.now))) _ c.args.t.0 c.if-t-coverage.true, tt)

pub returns-then-coverage-t : goal.returns-then-coverage-t
returns-then-coverage-t c = (point_behind (venue_by (zone_in c.args.clock.now) (governing_rule (rules_in c.args.rules.now))) _ c.args.t.0 c.if-coverage-t.true, tt)

pub overflow_add-tomorrow : goal.overflow_add-tomorrow
overflow_add-tomorrow c =
    omega (arith, c.day_at-today.ensures, date_small _ _ _ c.args.t.0 c.args.clock.now.valid)

pub returns-in-Some : goal.returns-in-Some
returns-in-Some c =
    by_first _ _ (venue_by (zone_in c.args.clock.now) (governing_rule (rules_in c.args.rules.now))) _ _ c.if-t-coverage.false c.if-coverage-t.false c.day_at-today.ensures c.saturating_sub.ensures
    _ c.in-Some.ensures

pub returns-in-Some-day_holding : goal.returns-in-Some-day_holding
returns-in-Some-day_holding c =
    by_second _ _ (venue_by (zone_in c.args.clock.now) (governing_rule (rules_in c.args.rules.now))) _ _ c.if-t-coverage.false c.if-coverage-t.false c.day_at-today.ensures c.saturating_sub.ensures
    _ c.in_default.ensures c.in-Some-day_holding.ensures

pub returns : goal.returns
returns c =
    by_third _ _ (venue_by (zone_in c.args.clock.now) (governing_rule (rules_in c.args.rules.now))) _ _ c.if-t-coverage.false c.if-coverage-t.false c.day_at-today.ensures c.saturating_sub.ensures
    _ c.in_default.ensures c.in_default-day_holding.ensures c.day_holding-3.ensures
