-- The pass over a window's stretches: they are in order, and each piece of the walk is the next of them. Assumes nothing.
use Rattle.std.specs.Prelude.{None, Some}
use mathlib.Core.Path.{◌≡◌, refl, sym, ap, subst, ◌∙◌}
use mathlib.Core.List.{List, [], ◌∷◌, ◌++◌, map}
use Prim.Native.Nat.{ℕ, ◌+◌, ◌*◌, ◌≤◌, ◌<◌, min, max, ◌-◌}
use native.Mathlib.Omega.{arith}
use native.Mathlib.Decide.{dec_le}
use lib.ListN.{length}
use Rattle.wire.specs.Fields.{Inside, Put}
use Rattle.zone.specs.Zone.{Zone}
use Rattle.zone.specs.Clocks.{zone_in}
use Rattle.records.specs.Book.{last_phase}
use Rattle.spans.specs.Spans.{Mark, phase, unknown, Span, Within}
use Rattle.spans.specs.Timeline.{turns, walk}
use Rattle.spans.proofs.Lists.{ordered}
use Rattle.spans.proofs.Walking.{walk_within, walk_none}
use Rattle.day.specs.Days.{Values, Held, venue_of}
use Rattle.day.specs.Venues.{values_in, dates_in, book_in}
use Rattle.venue.specs.declared.venue.Venue.{Venue}
use Rattle.walk.specs.Walking.{rule_of, point_of, after_piece, rest, WalkStands, Begun, Comes}
use Rattle.walk.specs.Looking.{IsNextPiece, DateSpent, TurnsOn}
use Rattle.walk.specs.declared.Walk.{Walk}
use Rattle.walk.specs.declared.Piece.{Piece}
use Rattle.walk.proofs.Going as Going
use Rattle.walk.proofs.Going.{come_left, turn_left}
use Rattle.walk.proofs.Looking.{piece_comes, piece_spent}
use Rattle.answer.specs.Forms.{encode_all, row_size}
use Rattle.tally_rows.specs.Rows.{rows_of}
use Rattle.tally_rows.specs.OpenRows.{stretch_of, raw_forms, Slot, Ahead, Ordered, Standing, Coming, Counted, Ending, Ended, First, unknown_slot}
use Rattle.tally.specs.Private.{held_mark, raw_blank, raw_of, walked, AllComing, AllCounted}
use Rattle.tally_rows.specs.declared.OpenRow.{OpenRow}
use Rattle.tally_rows.proofs.Filling.{unknown_slot_law, first_standing}

-- ---- the stretches of a window are in order

module _ (end : ℕ) (last : Span Mark) (ends : last.to ≤ end) where
  pieces_ahead : (t lo hi : ℕ) (ss : List (Span Held)) → Within lo hi ss → t ≤ lo → t ≤ last.from → Ahead t (map held_mark ss ++ (last ∷ []))
  pieces_ahead t lo hi [] w h i = (i, tt)
  pieces_ahead t lo hi (s ∷ ss) w h i = (omega arith, pieces_ahead t s.to hi ss w.2 (omega arith) i)

  pieces_ordered : (lo hi : ℕ) (ss : List (Span Held)) → Within lo hi ss → hi ≤ end → hi ≤ last.from → Ordered end (map held_mark ss ++ (last ∷ []))
  pieces_ordered lo hi [] w h i = (ends, tt, tt)
  pieces_ordered lo hi (s ∷ ss) w h i =
      let o = ordered s.to hi ss w.2 in
      (omega arith, pieces_ahead s.to s.to hi ss w.2 (omega arith) (omega arith), pieces_ordered s.to hi ss w.2 h i)

pub blank_ordered : (start end : ℕ) → Ordered end (raw_blank start end)
blank_ordered start end = (omega arith, tt, tt)

pub raw_ordered : (v : Values) (start end : ℕ) → v.coverage.start < v.coverage.end → start < end → Ordered end (raw_of v start end)
raw_ordered v start end c h = go (dec_le lo hi)
  where
    lo : ℕ
    lo = max start v.coverage.start

    hi : ℕ
    hi = min end v.coverage.end

    last : Span Mark
    last = stretch_of (max start v.coverage.end) end unknown

    go : Dec (lo ≤ hi) → Ordered end (raw_of v start end)
    go (yes l) =
        let w = walk_within (venue_of v) hi turns lo l in (
          omega arith,
          pieces_ahead end last (omega arith) (min end v.coverage.start) lo hi (walk (venue_of v) hi turns lo) w (omega arith) (omega arith),
          pieces_ordered end last (omega arith) lo hi (walk (venue_of v) hi turns lo) w (omega arith) (omega arith),
        )
    go (no l) =
        let z = walk_none (venue_of v) hi turns lo (omega arith) in
        rw z (omega arith, (omega arith, tt), (omega arith, tt, tt))

-- ---- the last stretch

module _ {start end after : ℕ} {all : List (Span Mark)} {room now : List ℕ} {p : OpenRow} {row whole : List ℕ}
    (x : Standing all (stretch_of after end unknown ∷ []) start end room now p row whole) where
  pub last_coming : Coming now p start end after end unknown_slot row whole
  last_coming = record { all = all; left = []; room = room; mark = unknown; is = unknown_slot_law; stands = x }

  module _ {now1 : List ℕ} {p1 : OpenRow} {row1 whole1 : List ℕ} (k : Counted now p start end after end unknown_slot row whole now1 p1 row1 whole1) where
    last_counted : Standing all [] start end room now1 p1 row1 whole1
    last_counted = k.on all [] room unknown unknown_slot_law x

    pub last_ending : Ending now1 p1 start end row1 whole1
    last_ending = record { all = all; room = room; stands = last_counted }

    pub last_put : {now2 : List ℕ} {r : ℕ} → Ended now1 p1 start end row1 whole1 now2 r → Put room 0 (encode_all (raw_forms all start end)) r now2 r
    last_put e = e.on all room last_counted

-- a venue without data has no other
pub blank_first : {start end : ℕ} {room : List ℕ} → start < end → Inside 0 (row_size * (length (rows_of start end) + 1)) room
    → {p : OpenRow} {row whole : List ℕ} → First start end p row whole
    → Standing (raw_blank start end) (raw_blank start end) start end room room p row whole
blank_first {start} {end} h fits f = first_standing (raw_blank start end) h (blank_ordered start end) (omega (arith, fits)) f

-- ---- the walk's pieces

abbrev mark_of : List ℕ → Piece → Mark
mark_of s q = phase (point_of s q q.point).phase (rule_of s q).evidence

module _ (v : Venue) (lo hi : ℕ) where
  abbrev pub zone : Zone
  zone = zone_in v.clock

  abbrev pub stretches : List (Span Mark)
  stretches = walked (dates_in v) lo hi

  -- those that are left
  abbrev pub pieces : Walk → List (Span Mark)
  pieces w = Going.left held_mark (book_in v) zone (dates_in v) hi w

  abbrev pub to_go : Walk → ℕ
  to_go w = Going.to_go (book_in v) zone (dates_in v) hi w

  -- a piece comes first, or none of the date's does
  abbrev pub ComesFirst : Walk → Piece → List ℕ → Type 0
  ComesFirst w q a = Comes (book_in v) zone (dates_in v) hi w q a

  module _ {w : Walk} {a : List ℕ} (h : WalkStands (book_in v) zone w a) where
    pub came : {q : Piece} → IsNextPiece (book_in v) a hi w (Some q) → ComesFirst w q a
    came l = piece_comes v.clock.offset0 v.clock.ats.now v.clock.offsets.now v.clock.valid (book_in v) (dates_in v) hi w a h l

    pub none_came : IsNextPiece (book_in v) a hi w None → DateSpent (book_in v) zone hi w
    none_came l = piece_spent v.clock.offset0 v.clock.ats.now v.clock.offsets.now v.clock.valid (book_in v) (dates_in v) hi w a h l

  -- the pieces that came are counted
  pub record Walked (start end : ℕ) (now : List ℕ) (p : OpenRow) (row whole : List ℕ) (w : Walk) (now' : List ℕ) (p' : OpenRow)
      (row' whole' : List ℕ) : Type 0 where
    pub on : (all last : List (Span Mark)) (room : List ℕ) → Standing all (stretches ++ last) start end room now p row whole
        → Standing all (pieces w ++ last) start end room now' p' row' whole'
    pub kept : length now' ≡ length now

  module _ {start end : ℕ} {now : List ℕ} {p : OpenRow} {row whole : List ℕ} where
    pub walked_none : {w : Walk} {a : List ℕ} → Begun (book_in v) zone (dates_in v) (turns - 1) lo w a
        → Walked start end now p row whole w now p row whole
    walked_none b =
        record {
          on = λ all last room x.
              subst (λ (l : List (Span Mark)). Standing all (l ++ last) start end room now p row whole) (sym (ap (map held_mark) (b.all hi))) x;
          kept = refl;
        }

    module _ {w : Walk} {now1 : List ℕ} {p1 : OpenRow} {row1 whole1 : List ℕ} (r : Walked start end now p row whole w now1 p1 row1 whole1) where
      -- a piece comes
      module _ {q : Piece} {a : List ℕ} (c : ComesFirst w q a) {j : ℕ} (e : (j ≡ (point_of (book_in v) q q.point).phase) × (j ≤ last_phase)) where
        is : Slot (mark_of (book_in v) q) j
        is = record { is = e.0; low = omega (arith, e.0, e.1) }

        piece_standing : (all last : List (Span Mark)) (room : List ℕ) → Standing all (stretches ++ last) start end room now p row whole
            → Standing all (stretch_of q.from.0 q.to.0 (mark_of (book_in v) q) ∷ (pieces (after_piece q) ++ last)) start end room now1 p1 row1 whole1
        piece_standing all last room x =
            subst (λ (l : List (Span Mark)). Standing all (l ++ last) start end room now1 p1 row1 whole1) (come_left c held_mark) (r.on all last room x)

        pub walked_coming : AllComing stretches now p start end row whole → Coming now1 p1 start end q.from.0 q.to.0 j row1 whole1
        walked_coming x =
            record {
              all = x.all;
              left = pieces (after_piece q) ++ x.last;
              room = x.room;
              mark = mark_of (book_in v) q;
              is = is;
              stands = piece_standing x.all x.last x.room x.stands;
            }

        -- and is counted
        pub walked_next : {now2 : List ℕ} {p2 : OpenRow} {row2 whole2 : List ℕ}
            → Counted now1 p1 start end q.from.0 q.to.0 j row1 whole1 now2 p2 row2 whole2
            → Walked start end now p row whole (after_piece q) now2 p2 row2 whole2
        walked_next k =
            record {
              on = λ all last room x.
                  k.on all (pieces (after_piece q) ++ last) room (mark_of (book_in v) q) is (piece_standing all last room x);
              kept = k.kept ∙ r.kept;
            }

      -- the walk turns
      pub turn_walked : {w2 : Walk} {a : List ℕ} → TurnsOn (book_in v) zone (dates_in v) hi w w2 a
          → Walked start end now p row whole w2 now1 p1 row1 whole1
      turn_walked t =
          record {
            on = λ all last room x.
                subst (λ (y : List (Span Mark)). Standing all (y ++ last) start end room now1 p1 row1 whole1) (turn_left t held_mark) (r.on all last room x);
            kept = r.kept;
          }

      -- or is done and all its pieces are counted
      pub walk_counted : rest (book_in v) zone (dates_in v) hi w ≡ [] → AllCounted stretches now p start end row whole now1 p1 row1 whole1
      walk_counted e =
          record {
            on = λ all last room x.
                subst (λ (y : List (Span Mark)). Standing all (y ++ last) start end room now1 p1 row1 whole1) (ap (map held_mark) e) (r.on all last room x);
            kept = r.kept;
          }

-- ---- a venue: the first stretch, and what is then left

module _ (v : Venue) (start end : ℕ) where
  abbrev raw : List (Span Mark)
  raw = raw_of (values_in v) start end

  abbrev before : ℕ
  before = min end v.coverage.start.0

  abbrev lo : ℕ
  lo = max start v.coverage.start.0

  abbrev hi : ℕ
  hi = min end v.coverage.end.0

  abbrev last : List (Span Mark)
  last = stretch_of (max start v.coverage.end.0) end unknown ∷ []

  module _ {room : List ℕ} {p : OpenRow} {row whole : List ℕ} (order : start < end)
      (fits : Inside 0 (row_size * (length (rows_of start end) + 1)) room) (first : First start end p row whole) where
    venue_first : Standing raw raw start end room room p row whole
    venue_first = first_standing raw order (raw_ordered (values_in v) start end v.covers order) (omega (arith, fits)) first

    pub venue_coming : Coming room p start end start before unknown_slot row whole
    venue_coming =
        record {
          all = raw;
          left = walked (dates_in v) lo hi ++ last;
          room = room;
          mark = unknown;
          is = unknown_slot_law;
          stands = venue_first;
        }

    -- then the walk comes
    module _ {now1 : List ℕ} {p1 : OpenRow} {row1 whole1 : List ℕ} (k : Counted room p start end start before unknown_slot row whole now1 p1 row1 whole1) where
      walk_coming : Standing raw (walked (dates_in v) lo hi ++ last) start end room now1 p1 row1 whole1
      walk_coming = k.on raw (walked (dates_in v) lo hi ++ last) room unknown unknown_slot_law venue_first

      pub venue_all_coming : AllComing (walked (dates_in v) lo hi) now1 p1 start end row1 whole1
      venue_all_coming = record { all = raw; last = last; room = room; stands = walk_coming }

      -- and the last stretch
      pub venue_walked : {now2 : List ℕ} {p2 : OpenRow} {row2 whole2 : List ℕ}
          → AllCounted (walked (dates_in v) lo hi) now1 p1 start end row1 whole1 now2 p2 row2 whole2
          → Standing raw last start end room now2 p2 row2 whole2
      venue_walked w = w.on raw last room walk_coming
