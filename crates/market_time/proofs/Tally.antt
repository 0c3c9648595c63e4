-- Demand 3 of a tally's bytes: over a plain window, each total of each row is the number of nanoseconds of that row whose point answer has
-- the phase, that are outside coverage, or that are covered and governed by no rule. Assumes nothing.
use mathlib.Core.Path.{◌≡◌, refl, sym, ap, ap₂, subst, ◌∙◌}
use mathlib.Core.Bool.{Bool, true, false, cond}
use mathlib.Core.List.{List, [], ◌∷◌, ◌++◌, map}
use Rattle.std.specs.Prelude.{Option}
use Prim.Native.Nat.{ℕ, zero, suc, ◌+◌, ◌-◌, ◌*◌, ◌/◌, ◌≤◌}
use native.Mathlib.Omega.{arith}
use borrow.Author.Tests.{ltb-true, ltb-false}
use lib.Dec.{ltb}
use lib.IntN.{ℤ}
use Rattle.zone.specs.Units.{day_ns, instant_number, instant_of}
use Rattle.calendar.specs.Answers.{zero_day}
use Rattle.records.specs.Records.{Coverage}
use Rattle.records.specs.Book.{records}
use Rattle.records.specs.Valid.{Bytes}
use Rattle.records.proofs.Cascade.{neither}
use Rattle.market_time.specs.Counted.{said_at, counted, counted_totals, counted_row, counted_forms}
use Rattle.market_time.proofs.Plain.{window_passes}
use Rattle.spans.specs.Spans.{Span}
use Rattle.spans.specs.Timeline.{Part}
use Rattle.spans.specs.Totals.{is_phase, shows, total}
use Rattle.spans.proofs.Totals.{same_count}
use Rattle.day.specs.Days.{Values, values_of, point_of}
use Rattle.query.specs.Judging.{window_refusal}
use Rattle.query.proofs.Order.{window_passed}
use Rattle.answer.specs.Forms.{Form, day, tally, encode_all}
use Rattle.answer.specs.Meaning.{totals_of}
use Rattle.span_records.specs.Shown.{Shown}
use Rattle.timeline.specs.Segments.{segments, timeline_of}
use Rattle.timeline.specs.Asking.{segments_by}
use Rattle.point.specs.Said.{point_mark}
use Rattle.point.proofs.Said.{point_said_law}
use Rattle.plain.specs.Books.{window, Plain}
use Rattle.agreement.specs.Books.{Names}
use Rattle.agreement.proofs.Tallied.{phase_instants, outside_instants, hole_instants}
use Rattle.tally_rows.specs.Rows.{row_end, rows_from, row_totals, day_form, forms_by}
use Rattle.tally.specs.Tallying.{tally_answer, too_long, tally_number}
use Rattle.book_query.specs.Judging.{window_number}

-- a tally that is answered has a window that is
pub tally_window : (s : List ℕ) (start end : ℤ) → tally_number s start end ≡ 0 → window_number s start end ≡ 0
unfolding tally_number
tally_window s start end e = (neither (window_number s start end) (too_long (instant_of start) (instant_of end)) e).0

-- an instant's number, turned back
number_instant : (t : ℕ) → instant_of (instant_number t) ≡ t
number_instant t = go (ltb t (zero_day * day_ns)) refl
  where
    go : (b : Bool) → ltb t (zero_day * day_ns) ≡ b → instant_of (instant_number t) ≡ t
    go true e = let l = ltb-true t (zero_day * day_ns) e in simp e (omega arith)
    go false e = let l = ltb-false t (zero_day * day_ns) e in simp e (omega arith)

module _ (s : List ℕ) (c : Coverage) where
  abbrev v : Values
  v = values_of (records s) c

  module _ (b : Bytes s) (named : Names s c) (start end : ℤ) (answered : tally_number s start end ≡ 0) (plain : Plain s start end) where
    passes : window_refusal start end ≡ 0
    passes = window_passes s start end (tally_window s start end answered)

    abbrev tl : List (Span (Option Shown))
    tl = timeline_of v (window start end)

    phase_counted : (from n p : ℕ) → instant_of start ≤ from → from + n ≤ instant_of end → total segments (is_phase p) from (from + n) tl ≡ counted s p from n
    phase_counted from n p h i =
        phase_instants s c named start end passes plain from n h i p
        ∙ same_count (λ t. shows (is_phase p) (point_mark (point_of v t))) (λ t. shows (is_phase p) (said_at s t)) from n
        (λ t x y. ap (shows (is_phase p)) (sym (point_said_law s b named.accepted c named.coverage (instant_number t) ∙ ap (λ (z : ℕ). point_mark (point_of v z)) (number_instant t))))

    -- each row inside the window
    pub row_counted : (from n : ℕ) → instant_of start ≤ from → from + n ≤ instant_of end → row_totals segments from (from + n) tl ≡ counted_totals s c from n
    row_counted from n h i =
        let p0 = phase_counted from n 0 h i in
        let p1 = phase_counted from n 1 h i in
        let p2 = phase_counted from n 2 h i in
        let p3 = phase_counted from n 3 h i in
        let p4 = phase_counted from n 4 h i in
        let p5 = phase_counted from n 5 h i in
        let p6 = phase_counted from n 6 h i in
        let p7 = phase_counted from n 7 h i in
        let u = outside_instants s c named start end passes plain from n h i in
        let long : from + n - from ≡ n = omega arith in
        let o = hole_instants s c named start end passes plain from n h i in
        rw (p0, p1, p2, p3, p4, p5, p6, p7, u, long, o)

    row_by_edges : (from to : ℕ) → instant_of start ≤ from → from ≤ to → to ≤ instant_of end → row_totals segments from to tl ≡ counted_totals s c from (to - from)
    row_by_edges from to h i j =
        let e : from + (to - from) ≡ to = omega arith in
        subst (λ (x : ℕ). row_totals segments from x tl ≡ counted_totals s c from (to - from)) e (row_counted from (to - from) h (omega arith))

    rows_counted : (n from : ℕ) → instant_of start ≤ from
        → map (day_form segments tl) (rows_from n (instant_of end) from) ≡ map (counted_row s c) (rows_from n (instant_of end) from)
    unfolding rows_from
    rows_counted zero from h = refl
    rows_counted (suc n) from h = go (ltb from (instant_of end)) refl (rows_counted n (row_end (instant_of end) from))
      where
        next : ℕ
        next = row_end (instant_of end) from

        rest : List Part
        rest = rows_from n (instant_of end) next

        go : (q : Bool) → ltb from (instant_of end) ≡ q → (instant_of start ≤ next → map (day_form segments tl) rest ≡ map (counted_row s c) rest)
            → map (day_form segments tl) (cond q (record { start = from; end = next } ∷ rest) []) ≡ map (counted_row s c) (cond q (record { start = from; end = next } ∷ rest) [])
        go false e on = refl
        go true e on =
            let l = ltb-true from (instant_of end) e in
            ap₂ (λ (t : List ℕ) (fs : List Form). day (totals_of from next t) ∷ fs) (row_by_edges from next h (omega arith) (omega arith)) (on (omega arith))

    -- every row of the answer, day rows and the closing one
    pub tally_is_points : tally_answer s start end ≡ encode_all (counted_forms s c (instant_of start) (instant_of end))
    unfolding tally_answer
    tally_is_points =
        let o = (window_passed start end passes).order in
        ap (λ (x : Option Coverage). encode_all (forms_by segments (segments_by (records s) (window start end) x) (instant_of start) (instant_of end))) named.coverage
        ∙ ap₂ (λ (fs : List Form) (t : List ℕ). encode_all (fs ++ (tally (totals_of (instant_of start) (instant_of end) t) ∷ [])))
        (rows_counted ((instant_of end - instant_of start) / day_ns + 1) (instant_of start) (omega arith))
        (row_by_edges (instant_of start) (instant_of end) (omega arith) (omega (arith, o)) (omega arith))
