-- The cases of a window query come together: each leaves what document 01 says. Assumes nothing.
use mathlib.Core.Path.{◌≡◌, refl, sym, ap, ap₂, ◌∙◌}
use mathlib.Core.List.{List}
use Rattle.std.specs.Prelude.{Option, None, Some, Err}
use Prim.Native.Nat.{ℕ}
use lib.IntN.{ℤ}
use Rattle.zone.specs.Units.{instant_of}
use Rattle.zone.specs.declared.Instant.{Instant}
use Rattle.zone.specs.declared.Interval.{Interval}
use Rattle.records.specs.Records.{Coverage}
use Rattle.records.specs.Book.{records}
use Rattle.venue.specs.Opening.{opened}
use Rattle.venue.specs.Filled.{Holds}
use Rattle.venue.specs.declared.opened.Header.{Header}
use Rattle.venue.specs.declared.venue.Venue.{Venue}
use Rattle.venue.proofs.Laws.{good_coverage}
use Rattle.venue.proofs.Known.{Known, start_number, end_number}
use Rattle.spans.specs.Timeline.{Part, blank}
use Rattle.day.specs.Days.{Values, values_of}
use Rattle.day.specs.Venues.{values_in}
use Rattle.day.proofs.Opened.{opened_values}
use Rattle.query.specs.Judging.{window_of}
use Rattle.book_query.specs.Judging.{window_number, judged_by}
use Rattle.book_query.proofs.Books.{Blanked, Named, judged_refused}
use Rattle.answer.specs.Forms.{Cover, encode_all}
use Rattle.answer.specs.Meaning.{cover_of}
use Rattle.lend.specs.Lending.{Lent}
use Rattle.lend.specs.Refusals.{number, reply_of}
use Rattle.lend.specs.declared.Reply.{Reply}
use Rattle.lend.specs.declared.refusal.Refusal.{Refusal}
use Rattle.lend.proofs.Replies.{lent_refused, lent_same}
use Rattle.timeline.specs.Segments.{timeline_of}
use Rattle.timeline.specs.Asking.{timeline_forms, by_coverage, window_forms, window_answer}
use Rattle.timeline.specs.Private.{gap_forms, told}
use Rattle.timeline.proofs.Parts.{told_timeline}

-- ---- what is told is document 01's answer

cover_is : {s : List ℕ} {h : Header} (k : Known s h) (i : Interval) → i ≡ h.coverage
    → cover_of (Some i) ≡ Some (record { start = k.covered.start; end = k.covered.end })
cover_is k i e =
    ap (λ (x : Interval). cover_of (Some x)) (e ∙ ap (λ (x : Header). x.coverage) k.header)
    ∙ ap₂ (λ (x y : ℤ). Some (record { start = x; end = y })) (start_number k) (end_number k)

told_is : {s : List ℕ} {h : Header} {v : Venue} → Holds s h v → (k : Known s h) (m n : ℤ)
    → told (values_in v) (Some v.coverage) (instant_of m) (instant_of n) ≡ window_forms s m n
told_is {s} {v = v} holds k m n =
    let rs = records s in
    let c = k.covered in
    let w : Part = record { start = instant_of m; end = instant_of n } in
    ap (λ (x : Values). told x (Some v.coverage) w.start w.end) (opened_values holds k)
    ∙ told_timeline (values_of rs c) (Some v.coverage) w (good_coverage s k.accepted c k.is).order
    ∙ ap (λ (o : Option Cover). timeline_forms o (timeline_of (values_of rs c) w)) (cover_is k v.coverage holds.coverage)
    ∙ sym (ap (by_coverage rs w) k.is)

-- ---- the cases

module _ (s : List ℕ) (m n : ℤ) {room : List ℕ} where
  -- the book or the window is refused
  pub close_refused : (w : Refusal) → Err (number w) ≡ judged_by (opened s) (window_of m n)
      → Lent (window_number s m n) (window_answer s m n) room room (reply_of (Err w))
  close_refused w e =
      let j = judged_refused s m n e in
      lent_same (lent_refused (window_answer s m n) room j.1) j.0 refl

  module _ {left : List ℕ} {r : Reply} {a b : Instant} where
    -- a venue without data
    pub close_empty : Blanked s m n a b → Lent 0 (encode_all (gap_forms None a.0 b.0)) room left r
        → Lent (window_number s m n) (window_answer s m n) room left r
    unfolding window_answer blank
    close_empty j w =
        let p : Part = record { start = instant_of m; end = instant_of n } in
        lent_same w (sym j.passed)
        (ap₂ (λ (x y : ℕ). encode_all (gap_forms None x y)) j.window.start j.window.end
        ∙ sym (ap (λ (x : Option Coverage). encode_all (by_coverage (records s) p x)) j.uncovered))

    -- a venue
    pub close_venue : {h : Header} {v : Venue} → Holds s h v → Named s m n h a b
        → Lent 0 (encode_all (told (values_in v) (Some v.coverage) a.0 b.0)) room left r
        → Lent (window_number s m n) (window_answer s m n) room left r
    unfolding window_answer
    close_venue {v = v} holds j w =
        lent_same w (sym j.passed)
        (ap₂ (λ (x y : ℕ). encode_all (told (values_in v) (Some v.coverage) x y)) j.window.start j.window.end
        ∙ ap encode_all (told_is holds j.known m n))
