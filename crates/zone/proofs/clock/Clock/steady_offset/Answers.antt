use Rattle.std.proofs.Common.{ℕ, ◌+◌, ◌-◌, ◌<◌, ◌≤◌, sym, ap, ◌∙◌, subst, arith}
use Rattle.std.specs.Prelude.{Some}
use Rattle.zone.specs.Clocks.{zone_in}
use Rattle.zone.specs.Steady.{margin_ns}
use Rattle.zone.proofs.Offsets.{offset_passed}
use Rattle.zone.proofs.Passing.{next_far}
use Rattle.zone.proofs.Shifts.{steady_early, steady_late, steady_not, steady_by, none_true, none_false, next_near}
use Rattle.zone.proofs.clock.Clock.steady_offset.Goals as goal

pub returns-then-from-lt-FIRST_TRANSITION : goal.returns-then-from-lt-FIRST_TRANSITION
returns-then-from-lt-FIRST_TRANSITION c = sym (steady_early (zone_in c.args.self.now) _ _ c.if-from-lt-FIRST_TRANSITION.true)

pub returns-then-to-gt-LAST_TRANSITION : goal.returns-then-to-gt-LAST_TRANSITION
returns-then-to-gt-LAST_TRANSITION c =
    sym (steady_late (zone_in c.args.self.now) _ _ c.if-from-lt-FIRST_TRANSITION.false c.if-to-gt-LAST_TRANSITION.true)

pub returns-then-next_at-to : goal.returns-then-next_at-to
returns-then-next_at-to c =
    let clock = c.args.self.now in
    let low = c.args.from.0 - margin_ns in
    let high = c.args.to.0 + margin_ns in
    let k = c.passed-count.result in
    let next = subst (λ (r : ℕ). r ≤ high) c.next_at.ensures c.if-next_at-to.true in
    let near = next_near clock.ats.now k high next (omega arith) in
    let some = none_false low high k _ _ clock.valid.spaced clock.valid.alike c.passed-count.ensures near.0 near.1 in
    sym (steady_not (zone_in clock) _ _ c.if-from-lt-FIRST_TRANSITION.false c.if-to-gt-LAST_TRANSITION.false some)

pub returns : goal.returns
returns c =
    let clock = c.args.self.now in
    let low = c.args.from.0 - margin_ns in
    let high = c.args.to.0 + margin_ns in
    let k = c.passed-count.result in
    let next = subst (λ (r : ℕ). high < r) c.next_at.ensures c.if-next_at-to.false in
    let far = next_far clock.ats.now k high next in
    let none = none_true low high k _ _ clock.valid.spaced c.passed-count.ensures (omega arith) (omega arith) far in
    let is = offset_passed low clock.offset0 k _ _ clock.valid.spaced clock.valid.alike c.passed-count.ensures in
    ap Some c.offset_after.ensures
    ∙ sym (steady_by (zone_in clock) _ _ _ c.if-from-lt-FIRST_TRANSITION.false c.if-to-gt-LAST_TRANSITION.false none is)
