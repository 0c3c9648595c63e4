use Rattle.std.proofs.Common.{sym, ◌∙◌, arith}
use Rattle.zone.proofs.Passing.{offset_in}
use Rattle.zone.proofs.Offsets.{offset_passed}
use Rattle.zone.proofs.clock.Clock.offset_at.Goals as goal

pub returns : goal.returns
returns c =
    let now = c.args.self.now in
    let k = c.passed-count.result in
    let is = offset_passed c.args.t.0 now.offset0 k now.ats.now now.offsets.now now.valid.spaced now.valid.alike c.passed-count.ensures in
    let small = offset_in now.offset0 now.ats.now now.offsets.now k now.valid c.passed-count.ensures.most in
    (c.offset_after.ensures ∙ sym is, omega arith)
