-- A query's numbers judged: document 01, numbers 10 to 12. Assumes nothing.
use Rattle.std.specs.Prelude.{ℕ, not, cond, ◌||◌, eqb, ℤ}
use Rattle.std.specs.Prelude.{Option, None, Some, Result, Ok, Err}
use Rattle.std.specs.Int.Signed.{lt_z, le_z}
use Rattle.zone.specs.Units.{instant_of}
use Rattle.records.specs.Book.{inside, instants, refuse}
use Rattle.zone.specs.declared.Instant.{Instant}
use Rattle.zone.specs.declared.Interval.{Interval}
use Rattle.lend.specs.declared.refusal.Refusal.{Refusal}

-- ---- an instant

-- 10: outside its range. 0 for an instant that passes
abbrev pub instant_refusal : ℤ → ℕ
instant_refusal n = cond (inside instants n) 0 10

-- the instant that passes
abbrev pub queried : Result Instant Refusal → Option ℕ
queried (Err r) = None
queried (Ok t) = Some t.0

-- ---- a window

-- 10: an edge outside its range; 11: end before start; 12: empty, the end not after the start. 0 for a window that passes
unfoldable pub window_refusal : ℤ → ℤ → ℕ
window_refusal start end = refuse (not (inside instants start) || not (inside instants end)) 10 (refuse (lt_z end start) 11 (refuse (le_z end start) 12 0))

-- the window, or its number
unfoldable pub window_of : ℤ → ℤ → Result Interval ℕ
window_of start end =
    cond (eqb (window_refusal start end) 0) (Ok (record { start = record { 0 = instant_of start }; end = record { 0 = instant_of end } })) (Err (window_refusal start end))
