use Rattle.std.proofs.Common.{◌≡◌, ◌-◌}
use Rattle.tally_rows.proofs.Filling.{Rolling}
use Rattle.tally_rows.proofs.Pages.stretch.Given as goal

abbrev pub invariant-rows : goal.invariant-rows
invariant-rows l =
    record {
      rolling :
          Rolling l.initial.out l.initial.a.0 l.initial.b.0 l.initial.at l.initial.self.row l.end l.from l.to l.slot
          l.out l.a.0 l.b.0 l.at l.self.row;
      window : l.self.window ≡ l.initial.self.window;
      whole : l.self.whole ≡ l.initial.self.whole;
    }

abbrev pub decreases-rows : goal.decreases-rows
decreases-rows l = l.end - l.b.0
