-- From the k-th span to before the i-th none shows.
use Rattle.std.proofs.Common.{ℕ, ◌+◌, ◌≤◌, ◌<◌, min, max, get_or}
use Rattle.walk.proofs.step.showing.Given as goal

abbrev pub invariant-loop-i : goal.invariant-loop-i
invariant-loop-i l = record {
  from : l.k ≤ l.i;
  most : l.i ≤ l.n;
  hidden : (j : ℕ) → l.k ≤ j → j < l.i → min l.hi.0 (get_or l.edges (j + 1) 0) ≤ max l.cursor.0 (get_or l.edges j 0);
}
