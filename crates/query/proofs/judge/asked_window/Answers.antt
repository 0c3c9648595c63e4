use Rattle.std.proofs.Common.{arith}
use Rattle.std.specs.Prelude.{Ok, Err}
use Rattle.std.proofs.lemmas.Result.{err_from_is_err_and}
use Rattle.lend.specs.declared.refusal.Refusal.TheVariants.{WindowReversed, WindowEmpty}
use Rattle.query.proofs.Instants.{asked_outside, asked_in, number_outside}
use Rattle.query.proofs.Windows.{window_told, start_outside, end_outside, reversed, empty, passes}
use Rattle.query.proofs.judge.asked_window.Goals as goal

pub returns-in_err-start : goal.returns-in_err-start
returns-in_err-start c =
    let out = asked_outside c.args.start c.ranges.start c.asked_at.ensures.1 c.in_err-start.was in
    let p = err_from_is_err_and c.from_residual.result c.from_residual.ensures.1 in
    rw (p.1, p.2)
    (window_told _ _ (Err c.in_err-start.field-0.0) (start_outside _ _ (number_outside c.args.start c.ranges.start out c.in_err-start.ensures.0) out))

pub returns-in_err-end : goal.returns-in_err-end
returns-in_err-end c =
    let start = asked_in c.args.start c.ranges.start c.asked_at.ensures.1 c.in_ok-start.was in
    let out = asked_outside c.args.end c.ranges.end c.asked_at-2.ensures.1 c.in_err-end.was in
    let p = err_from_is_err_and c.from_residual-in_err-end.result c.from_residual-in_err-end.ensures.1 in
    rw (p.1, p.2)
    (window_told _ _ (Err c.in_err-end.field-0.0) (end_outside _ _ (number_outside c.args.end c.ranges.end out c.in_err-end.ensures.0) start.1 out))

pub returns-then-end-start : goal.returns-then-end-start
returns-then-end-start c =
    let start = asked_in c.args.start c.ranges.start c.asked_at.ensures.1 c.in_ok-start.was in
    let end = asked_in c.args.end c.ranges.end c.asked_at-2.ensures.1 c.in_ok-end.was in
    window_told _ _ (Err WindowReversed) (reversed _ _ start.1 end.1 (omega (arith, start.0, end.0)))

pub returns-then-end-start-2 : goal.returns-then-end-start-2
returns-then-end-start-2 c =
    let start = asked_in c.args.start c.ranges.start c.asked_at.ensures.1 c.in_ok-start.was in
    let end = asked_in c.args.end c.ranges.end c.asked_at-2.ensures.1 c.in_ok-end.was in
    window_told _ _ (Err WindowEmpty) (empty _ _ start.1 end.1 (omega (arith, start.0, end.0)))

pub returns : goal.returns
returns c =
    let start = asked_in c.args.start c.ranges.start c.asked_at.ensures.1 c.in_ok-start.was in
    let end = asked_in c.args.end c.ranges.end c.asked_at-2.ensures.1 c.in_ok-end.was in
    window_told _ _ (Ok _) (passes _ _ start.1 end.1 _ _ start.0 end.0 (omega (arith, start.0, end.0)))
