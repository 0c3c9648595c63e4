-- The loop over points looks at them one after the other, and the loop over records at the records.
use Rattle.std.proofs.Common.{◌-◌, length}
use Rattle.book.proofs.Before.{Here, Looking}
use Rattle.book.proofs.verdict.check.Given as goal

abbrev pub invariant-loop : goal.invariant-loop
invariant-loop l = Looking l.book l.at l.t l.kind l.n l.counter l.item l.least l.falls

abbrev pub invariant-records : goal.invariant-records
invariant-records l = Here l.book l.at l.t

abbrev pub decreases-records : goal.decreases-records
decreases-records l = length l.book - l.at
