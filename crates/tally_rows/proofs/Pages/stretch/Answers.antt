use Rattle.std.proofs.Common.{refl, arith, ◌∙◌, ◌<◌}
use Rattle.tally_rows.specs.Rows.{row_end}
use Rattle.tally_rows.proofs.Filling.{rolling_none, rolling_next, coming_whole, coming_row, coming_room, coming_turn, counted}
use Rattle.tally_rows.proofs.Pages.stretch.Goals as goal

pub shift-requires : goal.shift-requires
shift-requires c = coming_whole c.requires c.part.ensures (omega arith)

pub shift-requires-in-rows : goal.shift-requires-in-rows
shift-requires-in-rows c = coming_row c.requires c.rows.invariant.rolling c.part-in-rows.ensures (omega arith)

pub put_row-at-requires : goal.put_row-at-requires
put_row-at-requires c = coming_room c.requires c.rows.invariant.rolling c.part-in-rows.ensures c.shift-in-rows.ensures c.if-to-b.false

pub rows-init : goal.rows-init
rows-init c = record { rolling = rolling_none _ _ _ _ _ _ _ _ _; window = refl; whole = refl }

pub rows-preserved : goal.rows-preserved
rows-preserved c =
    record {
      rolling = rolling_next c.rows.invariant.rolling c.part-in-rows.ensures c.shift-in-rows.ensures c.if-to-b.false
          c.put_row-at.ensures c.row_end-next.ensures c.fresh-self.ensures;
      window = c.rows.invariant.window;
      whole = c.rows.invariant.whole;
    }

pub rows-smaller : goal.rows-smaller
rows-smaller c =
    let turn : (c.rows.b.0 < c.args.self.now.window.end.0) × (c.rows.b.0 < row_end c.args.self.now.window.end.0 c.rows.b.0) =
    coming_turn c.requires c.rows.invariant.rolling c.part-in-rows.ensures c.shift-in-rows.ensures c.if-to-b.false in
    omega (arith, turn, c.row_end-next.ensures)

pub returns : goal.returns
returns c = (
  counted c.rows.invariant.rolling c.part-in-rows.ensures c.shift-in-rows.ensures c.if-to-b.true
      c.part.ensures (c.rows.invariant.whole ∙ c.shift.ensures),
  c.rows.invariant.window,
)
