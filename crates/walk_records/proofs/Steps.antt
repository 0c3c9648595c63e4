-- The second pass over a real walk: each piece that comes is written. Assumes nothing.
use mathlib.Core.Path.{◌≡◌, refl, sym, ap, ◌∙◌, subst}
use mathlib.Core.List.{List, []}
use Rattle.std.specs.Prelude.{Option, None, Some}
use Prim.Native.Nat.{ℕ, ◌+◌, ◌-◌, ◌*◌, ◌≤◌, ◌<◌}
use native.Mathlib.Omega.{arith}
use lib.ListN.{length}
use Rattle.wire.specs.Fields.{Inside, wrote, Put}
use Rattle.venue.specs.declared.venue.Venue.{Venue}
use Rattle.spans.specs.Spans.{Span}
use Rattle.day.specs.Venues.{dates_in}
use Rattle.events.specs.Happenings.{found}
use Rattle.walk.specs.Walking.{rule_of, point_of, after_piece, rest, Begun}
use Rattle.walk.specs.declared.Walk.{Walk}
use Rattle.walk.specs.declared.Piece.{Piece}
use Rattle.answer.specs.Forms.{phase, encode, event_size}
use Rattle.answer.specs.Meaning.{phase_of}
use Rattle.answer.specs.declared.Phase.{Phase}
use Rattle.span_records.specs.Shown.{Shown, Trails}
use Rattle.span_records.specs.declared.Trail.{Trail}
use Rattle.walk.proofs.Going.{come_left, turn_left}
use Rattle.walk_records.specs.Walked.{shows_span}
use Rattle.joining.specs.Amending.{is_joinable}
use Rattle.joining.proofs.Laws.{many, head_at}
use Rattle.walk_records.proofs.Sizes.{event_bytes, bytes_of}
use Rattle.walk_records.proofs.Pieces.{zone, events, book, spans, span_of, left, Coming, Turning, many_found, many_few, end_at, joins_read, begun_spans, begun_few, done_left}
use Rattle.spans.specs.Timeline.{turns}
use Rattle.walk_records.specs.Private.{piece_head, shows, joined_record, events_place, events_before, told, Recorded}
use Rattle.walk_records.specs.declared.put.Written.{Written}
use Rattle.walk_records.proofs.Passes.{Writing, write_start, Goes, goes, write_end}

module _ (v : Venue) (hi : ℕ) where
  -- ---- a piece comes

  -- its span is written behind the others, or joins the last
  pub record Taken (room : List ℕ) (at : ℕ) (target now : List ℕ) (place : ℕ) (q : Piece) (joined : Option Written) : Type 0 where
    pub goes : Goes room at target now place (span_of v q) (left v hi (after_piece q)) joined

  pub taken : {w : Walk} {q : Piece} {a : List ℕ} → Coming v hi w q a → {p e : ℕ}
      → p ≡ (point_of (book v) q q.point).phase → e ≡ (rule_of (book v) q).evidence
      → {room : List ℕ} {at : ℕ} {target now : List ℕ} {last : Option Written} {place : ℕ} → Writing room at target now last place (left v hi w)
      → {joined : Option Written} → joined ≡ joined_record last q.from.0 p e → Taken room at target now place q joined
  taken {w} {q} c {p} {e} f d {room} {at} {target} {now} {last} {place} i j =
      record {
        goes =
            rw j (goes (is_joinable (shows last) q.from.0 p e) last (many_few v q c.fits)
            (subst (λ (x : List (Span Shown)). Writing room at target now last place x) (come_left c (shows_span (zone v) (events v))) i)
            (sym (joins_read v q f d (shows last) refl)));
      }

  -- ---- from the first byte to the last

  pub begun_writing : {lo : ℕ} {w : Walk} {a : List ℕ} → Begun (book v) (zone v) (dates_in v) (turns - 1) lo w a
      → {room : List ℕ} {at : ℕ} → at + length (bytes_of (spans v lo hi)) ≤ length room
      → Writing room at (bytes_of (spans v lo hi)) room None at (left v hi w)
  begun_writing {lo} {w} b {room} {at} h =
      let e = begun_spans v hi b in
      rw e (write_start room at (left v hi w) (begun_few v hi b) (rw e at h))

  module _ {room : List ℕ} {at : ℕ} {target now : List ℕ} {last : Option Written} {place : ℕ} (w : Walk)
      (i : Writing room at target now last place (left v hi w)) where
    pub turn_written : {w' : Walk} {a : List ℕ} → Turning v hi w w' a → Writing room at target now last place (left v hi w')
    turn_written l = subst (λ (x : List (Span Shown)). Writing room at target now last place x) (turn_left l (shows_span (zone v) (events v))) i

    pub walk_put : rest (book v) (zone v) (dates_in v) hi w ≡ [] → Put room at target (length target) now place
    walk_put e = let none = done_left v hi w e in write_end last (rw none at i)

-- ---- what the code asks for while it writes a piece, and what that leaves

module _ {v : Venue} {hi : ℕ} {room : List ℕ} {at : ℕ} {target now : List ℕ} {place : ℕ} {q : Piece} {joined : Option Written}
    (t : Taken v hi room at target now place q joined) where
  abbrev own : Span Shown
  own = span_of v q

  abbrev its : ℕ
  its = length (found (zone v) (events v) q.start.0 q.end.0)

  its_many : many own ≡ its
  its_many = many_found v q

  pub its_count : {n : ℕ} → n ≡ its → events_before joined + n < 4294967296
  its_count x = omega (arith, its_many, t.goes.count)

  module _ {front : ℕ} (x : front ≡ events_place joined place) where
    pub its_room : Inside front (event_size * its) now
    its_room = omega (arith, its_many, t.goes.space)

    module _ {now1 : List ℕ} {trail : Trail} (y : Trails (zone v) (events v) q.start.0 q.end.0 now front now1 trail) {head : Phase}
        (u : head ≡ piece_head (book v) (zone v) q trail.count) {new : Written} (d : new ≡ told joined head place) where
      its_events : Put now (events_place joined place) (event_bytes own) (event_size * many own) now1 trail.behind
      its_events = rw (its_many, end_at v q, ← x) y.put

      its_told : new ≡ told joined (head_at own) place
      its_told = d ∙ ap (λ (h : Phase). told joined h place) (u ∙ ap (piece_head (book v) (zone v) q) (y.count ∙ sym its_many))

      pub its_record : Recorded now1 joined new
      its_record = rw its_told (t.goes.ready its_events)

      pub written : {now2 : List ℕ} → now2 ≡ wrote now1 new.stand (encode (phase (phase_of new.head)))
          → Writing room at target now2 (Some new) trail.behind (left v hi (after_piece q))
      written {now2} o =
          subst (λ (r : Written). now2 ≡ wrote now1 r.stand (encode (phase (phase_of r.head))) → Writing room at target now2 (Some r) trail.behind (left v hi (after_piece q)))
          (sym its_told) (t.goes.next its_events) o
