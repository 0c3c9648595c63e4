-- The cases of a tally query come together: each leaves what document 01 says. Assumes nothing.
use mathlib.Core.Path.{◌≡◌, refl, sym, ap, ap₂, ◌∙◌}
use mathlib.Core.Bool.{Bool, true, false, cond}
use mathlib.Core.List.{List}
use Rattle.std.specs.Prelude.{Option, None, Err}
use Prim.Native.Nat.{ℕ, ◌+◌, ◌-◌, ◌*◌, ◌≤◌, ◌<◌}
use native.Mathlib.Omega.{arith}
use borrow.Author.Tests.{eq-eqb, ne_eqb, lt-ltb, le-ltb}
use lib.Dec.{eqb}
use lib.IntN.{ℤ}
use lib.ListN.{length}
use Rattle.wire.specs.Fields.{Put}
use Rattle.zone.specs.declared.Instant.{Instant}
use Rattle.records.specs.Records.{Coverage}
use Rattle.records.specs.Book.{records}
use Rattle.venue.specs.Opening.{opened}
use Rattle.venue.specs.Filled.{Holds}
use Rattle.venue.specs.declared.opened.Header.{Header}
use Rattle.venue.specs.declared.venue.Venue.{Venue}
use Rattle.venue.proofs.Laws.{good_coverage}
use Rattle.spans.specs.Spans.{Mark, Span}
use Rattle.spans.specs.Timeline.{Part, blank}
use Rattle.day.specs.Days.{Values, values_of}
use Rattle.day.specs.Venues.{values_in}
use Rattle.day.proofs.Opened.{opened_values}
use Rattle.query.specs.Judging.{window_of}
use Rattle.query.proofs.Windows.{Windowed}
use Rattle.book_query.proofs.Books.{Blanked, Named, judged_refused}
use Rattle.answer.specs.Forms.{encode_all, row_size}
use Rattle.lend.specs.Lending.{Lent}
use Rattle.lend.specs.declared.Reply.{Reply}
use Rattle.lend.proofs.Replies.{lent_refused, lent_short, lent_written, lent_same}
use Rattle.timeline.specs.Segments.{segments, timeline_of}
use Rattle.timeline.specs.Asking.{segments_by}
use Rattle.tally_rows.specs.Rows.{rows_of, forms_by, most_tally_ns}
use Rattle.zone.specs.Units.{instant_of}
use Rattle.book_query.specs.Judging.{window_number, judged_by}
use Rattle.tally.specs.Tallying.{tally_answer, too_long, tally_number}
use Rattle.tally_rows.specs.OpenRows.{marks, raw_forms}
use Rattle.tally.specs.Private.{raw_blank, raw_of}
use Rattle.tally_rows.proofs.Filling.{forms_long}
use Rattle.tally.proofs.Raw.{raw_total, blank_total, same_forms}

-- ---- a window that is too long, too little room, the answer

abbrev written : List (Span Mark) → ℕ → ℕ → List ℕ
written all start end = encode_all (raw_forms all start end)

short_enough : (start end : ℕ) → end - start ≤ most_tally_ns → too_long start end ≡ 0
short_enough start end h = simp (le-ltb most_tally_ns (end - start) h)

module _ (all : List (Span Mark)) (start end : ℕ) {room : List ℕ} where
  pub tally_long : most_tally_ns < end - start → Lent (too_long start end) (written all start end) room room (record { number = 13; length = 0 })
  tally_long h =
      let e = lt-ltb most_tally_ns (end - start) h in
      rw e (lent_refused (written all start end) room (λ z. omega arith))

  module _ (h : end - start ≤ most_tally_ns) {n : ℕ} (e : n ≡ row_size * (length (rows_of start end) + 1)) where
    pub tally_short : length room < n → Lent (too_long start end) (written all start end) room room (record { number = 16; length = 0 })
    tally_short l = lent_short (written all start end) room (short_enough start end h) (omega (arith, e, forms_long all start end))

    pub tally_written : n ≤ length room → {left : List ℕ} {m : ℕ} → Put room 0 (written all start end) m left m
        → Lent (too_long start end) (written all start end) room left (record { number = 0; length = m })
    tally_written l p =
        lent_written (written all start end) room (short_enough start end h) (omega (arith, e, forms_long all start end)) p.same (sym p.many)

-- ---- the number

module _ (s : List ℕ) (m n : ℤ) where
  by_window : (b : Bool) → eqb (window_number s m n) 0 ≡ b → cond b (too_long (instant_of m) (instant_of n)) (window_number s m n) ≡ tally_number s m n
  unfolding tally_number
  by_window b e = sym (ap (λ (b : Bool). cond b (too_long (instant_of m) (instant_of n)) (window_number s m n)) e)

  of_window : (window_number s m n ≡ 0 → ⊥) → window_number s m n ≡ tally_number s m n
  of_window f = by_window false (ne_eqb (window_number s m n) 0 f)

  of_length : window_number s m n ≡ 0 → {a b : Instant} → Windowed m n a b → too_long a.0 b.0 ≡ tally_number s m n
  of_length z i = ap₂ too_long i.start i.end ∙ by_window true (eq-eqb (window_number s m n) 0 z)

-- ---- the cases

module _ (s : List ℕ) (m n : ℤ) {room : List ℕ} where
  -- the book or the window is refused
  pub close_refused : {k : ℕ} → Err k ≡ judged_by (opened s) (window_of m n)
      → Lent (tally_number s m n) (tally_answer s m n) room room (record { number = k; length = 0 })
  close_refused e =
      let j = judged_refused s m n e in
      lent_same (lent_refused (tally_answer s m n) room j.1) (j.0 ∙ of_window s m n (λ z. j.1 (j.0 ∙ z))) refl

  module _ {left : List ℕ} {r : Reply} {a b : Instant} where
    -- a venue without data
    pub close_empty : Blanked s m n a b → Lent (too_long a.0 b.0) (written (raw_blank a.0 b.0) a.0 b.0) room left r
        → Lent (tally_number s m n) (tally_answer s m n) room left r
    unfolding tally_answer
    close_empty j w =
        let x = instant_of m in
        let y = instant_of n in
        let window : Part = record { start = x; end = y } in
        lent_same w (of_length s m n j.passed j.window)
        (ap₂ (λ (u v : ℕ). written (raw_blank u v) u v) j.window.start j.window.end
        ∙ ap encode_all (same_forms marks segments (raw_blank x y) (blank None window) (blank_total x y) x y)
        ∙ sym (ap (λ (u : Option Coverage). encode_all (forms_by segments (segments_by (records s) window u) x y)) j.uncovered))

    -- a venue
    pub close_venue : {h : Header} → Named s m n h a b → {v : Venue} → Holds s h v
        → Lent (too_long a.0 b.0) (written (raw_of (values_in v) a.0 b.0) a.0 b.0) room left r
        → Lent (tally_number s m n) (tally_answer s m n) room left r
    unfolding tally_answer
    close_venue {h} j {v} held w =
        let k = j.known in
        let i = j.window in
        let x = instant_of m in
        let y = instant_of n in
        let window : Part = record { start = x; end = y } in
        let g = values_of (records s) k.covered in
        let before : x < y = let p = i.start in let o = i.end in let d = i.order in omega arith in
        let covers = (good_coverage s k.accepted k.covered k.is).order in
        lent_same w (of_length s m n j.passed i)
        (ap (λ (u : Values). written (raw_of u a.0 b.0) a.0 b.0) (opened_values held k)
        ∙ ap₂ (λ (u o : ℕ). written (raw_of g u o) u o) i.start i.end
        ∙ ap encode_all (same_forms marks segments (raw_of g x y) (timeline_of g window) (raw_total g x y covers before) x y)
        ∙ sym (ap (λ (u : Option Coverage). encode_all (forms_by segments (segments_by (records s) window u) x y)) k.is))
