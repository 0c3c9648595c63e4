use Rattle.std.proofs.Common.{◌≡◌, ℕ, ◌≤◌, ◌<◌, get_or}
use Rattle.events.specs.declared.Occurrence.{Occurrence}
use Rattle.events.proofs.Choosing.{Seeks}
use Rattle.events.proofs.steady.next_kept.Given as goal

abbrev pub invariant-loop-i : goal.invariant-loop-i
invariant-loop-i l = record {
  within : l.best ≤ l.n;
  its_instant : l.best < l.n → get_or l.when l.best 0 ≡ l.first;
  seeks : (o : ℕ → Occurrence) → ((j : ℕ) → j < l.n → (o j).boundary.at.0 ≡ get_or l.when j 0) → Seeks o l.n l.at.0 l.index l.i l.best;
}
