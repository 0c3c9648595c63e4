use Rattle.std.proofs.Common.{ℕ, sym, ap, ◌∙◌, true, false, get_or, arith}
use Rattle.events.proofs.Choosing.{seek_one, seek_end}
use Rattle.events.proofs.steady.next_kept.Goals as goal
use Rattle.events.proofs.steady.next_kept.Goals.{then-here-best, else-here-best}

pub loop-i-preserved : goal.loop-i-preserved
loop-i-preserved c =
    let args = c.args in
    let i = c.loop-i.i in
    let inv = c.loop-i.invariant in
    let inside = c.loop-i-test.true in
    elim c.if-here-best.branch [
      | then-here-best w ↦
          record {
            within = omega (arith, w.best-is);
            its_instant = λ h. ap (λ (k : ℕ). get_or args.when.now k 0) w.best-is ∙ sym w.first-is;
            seeks = λ o same.
                seek_one o args.n args.at.0 args.index i c.loop-i.best c.loop-i.first _ c.if-here-best.best (inv.seeks o same) inside inv.within (same i inside)
                (λ h. same c.loop-i.best h ∙ inv.its_instant h) true w.if-here-best.true w.best-is;
          }
      | else-here-best w ↦
          record {
            within = omega (arith, inv.within, w.best-is);
            its_instant = λ h. ap (λ (k : ℕ). get_or args.when.now k 0) w.best-is ∙ inv.its_instant (omega (arith, h, w.best-is)) ∙ sym w.first-is;
            seeks = λ o same.
                seek_one o args.n args.at.0 args.index i c.loop-i.best c.loop-i.first _ c.if-here-best.best (inv.seeks o same) inside inv.within (same i inside)
                (λ h. same c.loop-i.best h ∙ inv.its_instant h) false w.if-here-best.false w.best-is;
          }
    ]

pub returns : goal.returns
returns c =
    let inv = c.loop-i.invariant in
    record { within = inv.within; best = λ o same. seek_end o c.args.n c.args.at.0 c.args.index c.loop-i.i c.loop-i.best (inv.seeks o same) c.loop-i-test.false }
