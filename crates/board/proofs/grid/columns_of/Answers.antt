-- A number placed below 12 counts as 12.
use Rattle.std.proofs.Common.{ap, w64, ◌∙◌}
use Rattle.wire.specs.Signs.{placed}
use Rattle.board.proofs.Columns.{few_columns, enough_columns}
use mir.ValLaws.{to_z-of_z}
use Rattle.board.proofs.grid.columns_of.Goals as goal

pub returns-then-p : goal.returns-then-p
returns-then-p c =
    few_columns c.args.columns _ (c.from-p.ensures ∙ ap (placed w64) (to_z-of_z w64 c.args.columns c.ranges.columns)) c.if-p.true

pub returns : goal.returns
returns c =
    enough_columns c.args.columns _ (c.from-p.ensures ∙ ap (placed w64) (to_z-of_z w64 c.args.columns c.ranges.columns)) c.if-p.false
