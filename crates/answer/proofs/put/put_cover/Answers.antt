-- No coverage is written as three zeros, and coverage behind its mark.
use Rattle.std.proofs.Common.{refl}
use Rattle.zone.specs.Units.{instant_number}
use Rattle.answer.proofs.Chain.{after, nothing_bytes, between_bytes}
use Rattle.answer.proofs.put.put_cover.Goals as goal

pub returns-in-None : goal.returns-in-None
returns-in-None c =
    let zeros = after c.put-b.ensures c.put.ensures refl in
    rw (c.in-None.is, ← nothing_bytes) (after c.put-a.ensures zeros refl)

pub returns-in-Some : goal.returns-in-Some
returns-in-Some c =
    let said = between_bytes (instant_number c.in-Some.covered.start.0) (instant_number c.in-Some.covered.end.0) in
    rw (c.in-Some.is, ← said) (after c.put-a-in-Some.ensures c.put_interval.ensures refl)
