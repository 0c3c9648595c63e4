use Rattle.std.proofs.Common.{ℕ, ◌≡◌, ◌<◌, length, refl, ◌∙◌, arith}
use Rattle.std.specs.Prelude.{None}
use Rattle.answer.specs.Forms.{encode_all, gap_size}
use Rattle.lend.proofs.Replies.{lent_short, lent_written}
use Rattle.timeline.specs.Private.{gap_forms}
use Rattle.timeline.proofs.Parts.{gap_some, gap_length}
use Rattle.timeline.proofs.reply.tell_empty.Goals as goal

-- the whole window is a stretch of which nothing is known
long : (start end : ℕ) → start < end → length (encode_all (gap_forms None start end)) ≡ gap_size
long start end h = gap_length None start end ∙ gap_some h

pub returns-then-out-lt-GAP_SIZE : goal.returns-then-out-lt-GAP_SIZE
returns-then-out-lt-GAP_SIZE c = lent_short _ _ refl (omega (arith, c.if-out-lt-GAP_SIZE.true, long c.args.window.start.0 c.args.window.end.0 c.requires))

pub returns : goal.returns
returns c =
    let put = c.put_unknown.ensures in
    lent_written _ _ refl (omega (arith, c.if-out-lt-GAP_SIZE.false, long c.args.window.start.0 c.args.window.end.0 c.requires)) put.same
    (omega (arith, put.behind, put.many))
