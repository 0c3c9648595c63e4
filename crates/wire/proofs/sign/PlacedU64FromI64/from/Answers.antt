use Rattle.std.proofs.Common.{ap, ◌∙◌, w64}
use Rattle.wire.specs.Signs.{turned}
use Rattle.wire.proofs.Signs.{cast_turned}
use Rattle.wire.proofs.sign.PlacedU64FromI64.from.Goals as goal

pub returns : goal.returns
returns c = ap (turned w64) c.cast_unsigned.ensures ∙ cast_turned w64 c.args.x c.ranges.x
