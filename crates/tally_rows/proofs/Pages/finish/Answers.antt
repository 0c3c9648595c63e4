use Rattle.std.proofs.Common.{subst}
use Rattle.zone.specs.declared.Interval.{Interval}
use Rattle.wire.specs.Fields.{Put}
use Rattle.answer.specs.Forms.{encode, tally, row_size}
use Rattle.answer.specs.Meaning.{totals_of}
use Rattle.tally_rows.proofs.Filling.{ending_stretch, ending_day, ending_tally, ended}
use Rattle.tally_rows.proofs.Pages.finish.Goals as goal

pub stretch-requires : goal.stretch-requires
stretch-requires c = ending_stretch c.requires

pub put_row-at-requires : goal.put_row-at-requires
put_row-at-requires c = ending_day c.stretch.ensures.0 c.requires

pub put_row-requires : goal.put_row-requires
put_row-requires c = ending_tally c.stretch.ensures.0 c.requires c.put_row-at.ensures

-- the window is the one that the pages began with
pub returns : goal.returns
returns c =
    ended c.stretch.ensures.0 c.put_row-at.ensures
    (subst
    (λ (w : Interval). Put c.put_row-at.new.out c.put_row-at.result (encode (tally (totals_of w.start.0 w.end.0 c.stretch.new.self.whole))) row_size
    c.put_row.new.out c.put_row.result)
    c.stretch.ensures.1
    c.put_row.ensures)
