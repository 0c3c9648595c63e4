-- Each phase has its glyph, and there is one for any other.
use Rattle.std.proofs.Common.{sym, ap, arith}
use Rattle.board.specs.Cells.{phase_glyph}
use Rattle.board.proofs.Drawn.{glyph_other}
use Rattle.board.proofs.cells.phase_glyph.Goals as goal

pub returns-in-0 : goal.returns-in-0
unfolding phase_glyph
returns-in-0 c = ap phase_glyph (sym c.in-0.is)

pub returns-in-1 : goal.returns-in-1
unfolding phase_glyph
returns-in-1 c = ap phase_glyph (sym c.in-1.is)

pub returns-in-2 : goal.returns-in-2
unfolding phase_glyph
returns-in-2 c = ap phase_glyph (sym c.in-2.is)

pub returns-in-3 : goal.returns-in-3
unfolding phase_glyph
returns-in-3 c = ap phase_glyph (sym c.in-3.is)

pub returns-in-4 : goal.returns-in-4
unfolding phase_glyph
returns-in-4 c = ap phase_glyph (sym c.in-4.is)

pub returns-in-5 : goal.returns-in-5
unfolding phase_glyph
returns-in-5 c = ap phase_glyph (sym c.in-5.is)

pub returns-in-6 : goal.returns-in-6
unfolding phase_glyph
returns-in-6 c = ap phase_glyph (sym c.in-6.is)

pub returns-in-7 : goal.returns-in-7
unfolding phase_glyph
returns-in-7 c = ap phase_glyph (sym c.in-7.is)

pub returns-in_default : goal.returns-in_default
returns-in_default c = glyph_other _ (omega arith)
