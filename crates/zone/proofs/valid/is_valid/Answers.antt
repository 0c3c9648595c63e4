use Rattle.std.proofs.Common.{◌*◌}
use Rattle.wire.proofs.Signs.{and_no}
use Rattle.calendar.specs.Answers.{first_day}
use Rattle.zone.specs.Units.{day_ns}
use Rattle.zone.proofs.Validity.{valid_lengths}
use Rattle.zone.proofs.valid.is_valid.Goals as goal

pub returns-then-ats-offsets : goal.returns-then-ats-offsets
returns-then-ats-offsets c = simp (valid_lengths (first_day * day_ns) c.args.ats.now c.args.offsets.now c.if-ats-offsets.true, and_no)
