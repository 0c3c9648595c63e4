-- Demand 3 of a book whose elements are bytes. Assumes nothing.
use Prim.Native.Nat.{ℕ}
use mathlib.Core.List.{List}
use Rattle.records.specs.Valid.{Bytes}
use Rattle.timeline_rows.proofs.Seen.{row_shape}
use Rattle.market_time.specs.Demand.{Demand}
use Rattle.market_time.proofs.Plain.{window_accepted, window_passes, timeline_is_points}
use Rattle.market_time.proofs.Tally.{tally_is_points}

pub demand : (s : List ℕ) → Bytes s → Demand s
demand s b =
    record {
      shape = λ start end e. row_shape s start end b (window_accepted s start end e) (window_passes s start end e);
      points = λ c named start end e p at i. timeline_is_points s b c named start end e at i p;
      totals = λ c named start end e p. tally_is_points s c b named start end e p;
    }
