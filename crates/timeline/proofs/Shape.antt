-- Demand 3: for every accepted book and every accepted window, the answer's segments are not empty, in order, do not overlap and lie inside
-- the window, and two that touch differ in phase or evidence. Assumes nothing.
use mathlib.Core.Path.{◌≡◌, refl}
use mathlib.Core.Bool.{Bool, true, false, cond}
use mathlib.Core.List.{List, [], ◌∷◌}
use Rattle.std.specs.Prelude.{Option, None, Some}
use Prim.Native.Nat.{ℕ, ◌<◌}
use lib.Dec.{ltb}
use lib.IntN.{ℤ}
use Rattle.records.specs.Limits.{base}
use Rattle.records.specs.Records.{Coverage, Record}
use Rattle.records.specs.Book.{refusal, records}
use Rattle.venue.specs.Opening.{coverage_of}
use Rattle.venue.proofs.Laws.{good_coverage}
use Rattle.spans.specs.Spans.{Span, keep, Within, Apart}
use Rattle.spans.specs.Timeline.{Part, unjoined, timeline, blank}
use Rattle.spans.proofs.Joining.{joined_within, joined_apart}
use Rattle.spans.proofs.Shape.{unjoined_within, blank_shape}
use Rattle.day.specs.Days.{values_of}
use Rattle.query.specs.Judging.{window_refusal}
use Rattle.query.proofs.Order.{window_passed}
use Rattle.span_records.specs.Shown.{Shown}
use Rattle.zone.specs.Units.{instant_of}
use Rattle.timeline.specs.Segments.{segments, showing}
use Rattle.timeline.specs.Asking.{segments_by, segments_of}
use Rattle.timeline.proofs.Parts.{merges}

pub record Shape (s : List ℕ) (m n : ℤ) : Type 0 where
  pub within : Within (instant_of m) (instant_of n) (segments_of s m n)
  pub apart : Apart segments (segments_of s m n)

module _ (rs : List Record) (w : Part) (h : w.start < w.end) where
  within_by : (o : Option Coverage) → ((c : Coverage) → o ≡ Some c → instant_of c.start < instant_of c.end)
      → Within w.start w.end (segments_by rs w o)
  unfolding timeline
  within_by None k = blank_shape segments None w refl h
  within_by (Some c) k =
      let v = values_of rs c in
      let shows = showing v.zone v.governing v.events in
      joined_within segments w.start w.end (unjoined shows None v.coverage w) (unjoined_within shows None v.coverage w (k c refl) h)

  apart_by : (o : Option Coverage) → Apart segments (segments_by rs w o)
  unfolding timeline blank keep
  apart_by None = go (ltb w.start w.end)
    where
      gap : Span (Option Shown)
      gap = record { from = w.start; to = w.end; body = None }

      go : (b : Bool) → Apart segments (cond b (gap ∷ []) [])
      go true = (tt, tt)
      go false = tt
  apart_by (Some c) =
      let v = values_of rs c in
      joined_apart segments merges (unjoined (showing v.zone v.governing v.events) None v.coverage w)

-- for every accepted book and every accepted window
pub window_shape : (s : List ℕ) (m n : ℤ) → refusal base s ≡ 0 → window_refusal m n ≡ 0 → Shape s m n
window_shape s m n z e =
    let rs = records s in
    let w : Part = record { start = instant_of m; end = instant_of n } in
    let h = (window_passed m n e).order in
    record {
      within = within_by rs w h (coverage_of rs) (λ c q. (good_coverage s z c q).order);
      apart = apart_by rs w h (coverage_of rs);
    }
