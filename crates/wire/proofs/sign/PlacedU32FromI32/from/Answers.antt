use Rattle.std.proofs.Common.{ap, ◌∙◌, w32}
use Rattle.wire.specs.Signs.{turned}
use Rattle.wire.proofs.Signs.{cast_turned}
use Rattle.wire.proofs.sign.PlacedU32FromI32.from.Goals as goal

pub returns : goal.returns
returns c = ap (turned w32) c.cast_unsigned.ensures ∙ cast_turned w32 c.args.x c.ranges.x
