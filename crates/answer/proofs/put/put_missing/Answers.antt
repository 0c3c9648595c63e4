-- Head, instant and coverage, each behind the one before it.
use Rattle.std.proofs.Common.{refl}
use Rattle.answer.specs.Meaning.{missing_of}
use Rattle.answer.proofs.Chain.{after, missing_bytes}
use Rattle.answer.proofs.put.put_missing.Goals as goal

pub returns : goal.returns
returns c =
    let said = missing_bytes (missing_of c.args.t.0 c.args.c) in
    rw said (after c.put_head-a.ensures (after c.put_instant-b.ensures c.put_cover.ensures refl) refl)
