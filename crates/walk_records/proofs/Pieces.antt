-- A walk's pieces: each is a span that shows its events, and few are left. Assumes nothing.
use Rattle.std.specs.Prelude.{Option, None, Some}
use mathlib.Core.Path.{◌≡◌, refl, sym, ap, ap₂, ◌∙◌, subst}
use mathlib.Core.Bool.{Bool, true, false, cond}
use mathlib.Core.List.{List, [], map}
use Prim.Native.Nat.{ℕ, ◌+◌, ◌*◌, ◌≤◌, ◌-◌}
use native.Mathlib.Omega.{arith}
use lib.Dec.{ltb}
use lib.ListN.{length, length-map}
use Rattle.zone.specs.Zone.{Zone}
use Rattle.zone.specs.Clocks.{zone_in}
use Rattle.records.specs.Records.{Event}
use Rattle.venue.specs.Values.{events_in}
use Rattle.venue.specs.declared.venue.Venue.{Venue}
use Rattle.spans.specs.Spans.{Span, joined}
use Rattle.spans.specs.Timeline.{Edge, turns}
use Rattle.day.specs.Days.{Held}
use Rattle.day.specs.Venues.{values_in, book_in, places_in, dates_in}
use Rattle.events.specs.Happenings.{found, most_in_span}
use Rattle.events.proofs.Order.{length_sorted}
use Rattle.events.proofs.Few.{few}
use Rattle.walk.specs.Walking.{rule_of, point_of, end_edge, shown_part, after_piece, PieceFits, rest, WalkStands, Begun, Comes}
use Rattle.walk.specs.Looking.{IsNextPiece, DateSpent, TurnsOn}
use Rattle.walk.specs.declared.Walk.{Walk}
use Rattle.walk.specs.declared.Piece.{Piece}
use Rattle.walk.proofs.Laws.{rest_length, rules_few}
use Rattle.walk.proofs.Going as Going
use Rattle.walk.proofs.Going.{come_left, turn_left}
use Rattle.walk.proofs.Looking.{piece_comes, piece_spent}
use Rattle.span_records.specs.Shown.{Shown}
use Rattle.answer.specs.Forms.{phase_size, event_size}
use Rattle.joining.specs.Joining.{phases}
use Rattle.walk_records.specs.Walked.{shows_span, walk_spans}
use Rattle.joining.specs.Amending.{is_joinable}
use Rattle.joining.specs.declared.Last.{Last}
use Rattle.joining.proofs.Laws.{many, last_at, joins_next}
use Rattle.walk_records.proofs.Sizes.{bytes_of, spans_most, Sizing, size_start, size_one}

module _ (v : Venue) where
  abbrev pub zone : Zone
  zone = zone_in v.clock

  abbrev pub events : List Event
  events = events_in v.events

  abbrev pub book : List ℕ
  book = book_in v

  -- the walk over its dates, joined
  abbrev pub spans : ℕ → ℕ → List (Span Shown)
  spans lo hi = walk_spans zone (values_in v).governing events lo hi

  -- a piece as a span that shows its events
  abbrev pub span_of : Piece → Span Shown
  span_of q = shows_span zone events (shown_part book zone q)

  -- ---- its events

  pub end_at : (q : Piece) → (end_edge book q).at ≡ q.end.0
  end_at q = go (ltb (q.point + 1) (length (rule_of book q).points)) _ _ refl refl
    where
      go : (b : Bool) (x y : Edge) → x.at ≡ q.end.0 → y.at ≡ q.end.0 → (cond {A = Edge} b x y).at ≡ q.end.0
      go true x y e i = e
      go false x y e i = i

  pub many_found : (q : Piece) → many (span_of q) ≡ length (found zone events q.start.0 q.end.0)
  many_found q = length_sorted (found zone events q.start.0 (end_edge book q).at) ∙ ap (λ (t : ℕ). length (found zone events q.start.0 t)) (end_at q)

  pub found_few : (q : Piece) → PieceFits book zone q → length (found zone events q.start.0 q.end.0) ≤ most_in_span
  found_few q f =
      few v.events.book.now v.clock.offset0 v.clock.ats.now v.clock.offsets.now v.events.places.now v.clock.valid v.events.listed v.events.few
      q.start.0 q.end.0 f.short

  pub many_few : (q : Piece) → PieceFits book zone q → many (span_of q) ≤ most_in_span
  many_few q f = omega (arith, many_found q, found_few q f)

  -- ---- what the code reads of it is what it shows

  pub last_read : (q : Piece) {p e : ℕ} → p ≡ (point_of book q q.point).phase → e ≡ (rule_of book q).evidence
      → Some (record { until = q.to; phase = p; evidence = e }) ≡ last_at (span_of q)
  last_read q a b = ap₂ (λ (p e : ℕ). Some (record { until = q.to; phase = p; evidence = e })) a b

  pub joins_read : (q : Piece) {p e : ℕ} → p ≡ (point_of book q q.point).phase → e ≡ (rule_of book q).evidence → (l : Option Last) {b : Bool}
      → b ≡ is_joinable l q.from.0 p e → b ≡ joins_next l (span_of q)
  joins_read q a c l j = j ∙ ap₂ (is_joinable l q.from.0) a c

  module _ (hi : ℕ) where
    -- what is left of a walk, as spans that show their events
    abbrev pub left : Walk → List (Span Shown)
    left w = Going.left (shows_span zone events) book zone (dates_in v) hi w

    abbrev pub to_go : Walk → ℕ
    to_go w = Going.to_go book zone (dates_in v) hi w

    -- a piece comes, or the next turn begins
    abbrev pub Coming : Walk → Piece → List ℕ → Type 0
    Coming w q a = Comes book zone (dates_in v) hi w q a

    abbrev pub Turning : Walk → Walk → List ℕ → Type 0
    Turning w w' a = TurnsOn book zone (dates_in v) hi w w' a

    -- ---- the walk begins

    module _ {lo : ℕ} {w : Walk} {a : List ℕ} (b : Begun book zone (dates_in v) (turns - 1) lo w a) where
      pub begun_spans : spans lo hi ≡ joined phases (left w)
      begun_spans = ap (λ (l : List (Span Held)). joined phases (map (shows_span zone events) l)) (sym (b.all hi))

      pub begun_few : length (left w) ≤ spans_most
      begun_few =
          omega (
            arith,
            length-map (rest book zone (dates_in v) hi w) (shows_span zone events),
            rest_length (rules_few book (places_in v) v.rules.listed) b hi,
          )

      pub begun_sizing : Sizing (length (bytes_of (spans lo hi))) None 0 (left w)
      begun_sizing = rw begun_spans (size_start (left w) begun_few)

    -- ---- a piece comes, or none does

    module _ {w : Walk} {a : List ℕ} (h : WalkStands book zone w a) where
      pub came : {q : Piece} → IsNextPiece book a hi w (Some q) → Coming w q a
      came l = piece_comes v.clock.offset0 v.clock.ats.now v.clock.offsets.now v.clock.valid book (dates_in v) hi w a h l

      pub none_came : IsNextPiece book a hi w None → DateSpent book zone hi w
      none_came l = piece_spent v.clock.offset0 v.clock.ats.now v.clock.offsets.now v.clock.valid book (dates_in v) hi w a h l

    module _ {w : Walk} {q : Piece} {a : List ℕ} (c : Coming w q a) {p e : ℕ} (phase_is : p ≡ (point_of book q q.point).phase)
        (evidence_is : e ≡ (rule_of book q).evidence) where
      pub sized : {total size : ℕ} {last : Option Last} → Sizing total last size (left w) → {b : Bool} → b ≡ is_joinable last q.from.0 p e
          → {n m k : ℕ} → n ≡ cond b 0 phase_size → m ≡ length (found zone events q.start.0 q.end.0) → k ≡ size + n + event_size * m
          → Sizing total (Some (record { until = q.to; phase = p; evidence = e })) k (left (after_piece q))
      sized {total} {size} {last} i {b} j {n} {m} {k} x y t =
          size_one (subst (λ (l : List (Span Shown)). Sizing total last size l) (come_left c (shows_span zone events)) i) (many_few q c.fits)
          (t ∙ ap₂ (λ (u v : ℕ). size + u + event_size * v) (x ∙ ap (λ (u : Bool). cond u 0 phase_size) (joins_read q phase_is evidence_is last j))
          (y ∙ sym (many_found q)))
          (last_read q phase_is evidence_is)

    -- ---- the walk goes on

    pub turn_sized : {total size : ℕ} {last : Option Last} {w w' : Walk} {a : List ℕ} → Sizing total last size (left w) → Turning w w' a
        → Sizing total last size (left w')
    turn_sized {total} {size} {last} i l = subst (λ (x : List (Span Shown)). Sizing total last size x) (turn_left l (shows_span zone events)) i

    -- or is done
    pub done_left : (w : Walk) → rest book zone (dates_in v) hi w ≡ [] → left w ≡ []
    done_left w e = ap (map (shows_span zone events)) e
