use Rattle.std.proofs.Common.{ℤ, of_z, to_z, ap, ◌∙◌, arith, SFits, w64}
use mir.ValLaws.{to_z-of_z}
use Rattle.wire.proofs.Signs.{turned_cast}
use Rattle.wire.proofs.sign.I64FromPlacedU64.from.Goals as goal

pub returns : goal.returns
returns c =
    let fits : SFits w64 c.cast_signed.result = record { sfits = c.cast_signed.type_inv } in
    to_z-of_z w64 c.cast_signed.result fits ∙ c.cast_signed.ensures ∙ turned_cast w64 c.args.p.0 (omega arith)
