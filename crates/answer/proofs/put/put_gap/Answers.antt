-- Head, ends and coverage, each behind the one before it.
use Rattle.std.proofs.Common.{refl}
use Rattle.answer.specs.Meaning.{gap_of}
use Rattle.answer.proofs.Chain.{after, gap_bytes}
use Rattle.answer.proofs.put.put_gap.Goals as goal

pub returns : goal.returns
returns c =
    let said = gap_bytes (gap_of c.args.gap.start.0 c.args.gap.end.0 c.args.c) in
    rw said (after c.put_head-a.ensures (after c.put_interval-b.ensures c.put_cover.ensures refl) refl)
