-- What is written as a row is a good row, and reads back. Assumes nothing.
use mathlib.Core.Path.{◌≡◌, refl, sym, ap, ap₂, ◌∙◌}
use mathlib.Core.Bool.{Bool, true, false, ◌&&◌}
use mathlib.Core.List.{List, [], ◌∷◌, ◌++◌, append_assoc}
use Rattle.std.specs.Prelude.{Option, None, Some}
use Prim.Native.Nat.{ℕ, zero, suc, ◌+◌, ◌*◌, ◌≤◌, ◌<◌}
use native.Mathlib.Omega.{arith}
use borrow.Author.Tests.{le-leb, lt-ltb, eq-eqb}
use lib.Dec.{leb}
use lib.IntN.{ℤ}
use lib.ListN.{length, length-append}
use mir.Syntax.{w64}
use mir.Val.{SFits, of_z}
use Rattle.wire.specs.Signs.{placed, turned}
use Rattle.wire.proofs.Signs.{placed_below, turned_placed, turned_turned}
use Rattle.records.specs.Layout.{Place, number, size, kind}
use Rattle.records.proofs.Laid.{Says}
use Rattle.answer.specs.Forms
use Rattle.answer.specs.Forms.{Form, phase, unknown, event, point, mark, day, tally, length_of, all_fields, cover_fields, encode, encode_all, phase_kind, phase_length, gap_kind, gap_length, event_kind, event_length, phase_size, gap_size, event_size}
use Rattle.answer.specs.Fitting.{Fitting}
use Rattle.answer.proofs.Readback.{encode_length, reads_back, fitting_narrow, fitting_sized}
use Rattle.rows.specs.Rows.{placed_at, from_at, to_at, count_at, framed, enough, event_of, events_from, segments_at, segments}
use Rattle.rows.specs.Rows.{good_phase, good_gap, good_event, good_events, good_from, good_row, last_tag}
use Rattle.rows.specs.Written.{instant, GoodPhase, GoodGap, GoodEvent, Owing, RowFrom, event_said, events_of, seen_of}
use Rattle.rows.proofs.Turns.{phase_holds, gap_holds, at_end, phase_on, gap_on}
use Rattle.rows.proofs.Places.{segments_end, segments_phase, segments_gap}

both : {a b : Bool} → a ≡ true → b ≡ true → (a && b) ≡ true
both e f = rw (e, f)

-- the bits of an integer, placed
instant_back : (z : ℤ) → SFits w64 z → turned w64 (of_z w64 z) ≡ instant z
instant_back z f = ap (turned w64) (sym (turned_placed w64 z f)) ∙ turned_turned w64 (placed w64 z) (placed_below w64 z f)

-- ---- one form that stands in s at `at`

module _ (s : List ℕ) (at : ℕ) where
  placed_is : (p : Place) (z : ℤ) → SFits w64 z → number p s at ≡ of_z w64 z → placed_at p s at ≡ instant z
  placed_is p z f e = ap (turned w64) e ∙ instant_back z f

  framed_is : (k l : ℕ) → at + (2 + l) ≤ length s → number size s at ≡ l → number kind s at ≡ k → framed k l s at ≡ true
  framed_is k l h i j =
      both (both (le-leb (at + 2 + l) (length s) (omega arith)) (eq-eqb (number size s at) l i)) (eq-eqb (number kind s at) k j)

  small : (p : Place) (x m : ℕ) → number p s at ≡ x → x ≤ m → leb (number p s at) m ≡ true
  small p x m e h = le-leb (number p s at) m (rw e h)

  record PhaseIs (p : Forms.Phase) : Type 0 where
    good : good_phase s at ≡ true
    from : from_at s at ≡ instant p.start
    to : to_at s at ≡ instant p.end
    phase : number Forms.phase_place s at ≡ p.phase
    evidence : number Forms.evidence_place s at ≡ p.evidence
    count : count_at s at ≡ p.events

  phase_is : (p : Forms.Phase) (least : ℕ) → GoodPhase least p → at + phase_size ≤ length s → Says (all_fields (phase p)) s at 0 → PhaseIs p
  unfolding good_phase
  phase_is p least g h (z, (k, (a, (b, (c, (d, (l, (e, (r, (i, u)))))))))) =
      let from = placed_is Forms.start p.start g.fits.start a in
      let to = placed_is Forms.end p.end g.fits.end b in
      let f = small (Forms.tag_behind Forms.from_place) p.from.uncertainty.tag last_tag u.0 g.from in
      let v = u.1.1.1.1.1 in
      let t = small (Forms.tag_behind Forms.to_place) p.to.uncertainty.tag last_tag v.0 g.to in
      let x = v.1.1.1.1 in
      let w = small (Forms.tag_behind Forms.whole_before) p.whole.tag last_tag x.0 g.whole in
      let forward : from_at s at < to_at s at = rw (from, to) g.forward in
      record {
        good = both (both (both (framed_is phase_kind phase_length h z k) (small Forms.phase_place p.phase 7 c g.phase)) (small Forms.code_place p.code 3 d g.code))
            (both (both (both f t) w) (lt-ltb (from_at s at) (to_at s at) forward));
        from = from;
        to = to;
        phase = c;
        evidence = e;
        count = x.1.1.1.1.0;
      }

  record GapIs (g : Forms.Gap) : Type 0 where
    good : good_gap s at ≡ true
    from : from_at s at ≡ instant g.start
    to : to_at s at ≡ instant g.end

  present_is : (c : Option Forms.Cover) → Says (cover_fields Forms.end c) s at 20 → leb (number (Forms.present_behind Forms.end) s at) 1 ≡ true
  present_is None u = small (Forms.present_behind Forms.end) 0 1 u.0 (omega arith)
  present_is (Some c) u = small (Forms.present_behind Forms.end) 1 1 u.0 (omega arith)

  gap_is : (g : Forms.Gap) (least : ℕ) → GoodGap least g → at + gap_size ≤ length s → Says (all_fields (unknown g)) s at 0 → GapIs g
  unfolding good_gap
  gap_is g least o h (z, (k, (a, (b, u)))) =
      let from = placed_is Forms.start g.start o.fits.start a in
      let to = placed_is Forms.end g.end o.fits.end b in
      let forward : from_at s at < to_at s at = rw (from, to) o.forward in
      record {
        good = both (both (framed_is gap_kind gap_length h z k) (present_is g.coverage u)) (lt-ltb (from_at s at) (to_at s at) forward);
        from = from;
        to = to;
      }

  event_is : (e : Forms.Event) → GoodEvent e → at + event_size ≤ length s → Says (all_fields (event e)) s at 0
      → (good_event s at ≡ true) × (event_of s at ≡ event_said e)
  unfolding good_event
  event_is e g h (z, (k, (c, (a, u)))) =
      let i = placed_is Forms.event_at e.at g.fits.at a in (
        both (framed_is event_kind event_length h z k) (small (Forms.tag_behind Forms.event_at) e.uncertainty.tag last_tag u.0 g.tag),
        ap₂ (λ (x y : ℕ). record { at = x; code = y }) i c,
      )

-- the form at the front of what is written stands behind what was written before
record Front (f : Form) (s a t : List ℕ) (at : ℕ) : Type 0 where
  says : Says (all_fields f) s at 0
  whole : at + (2 + length_of f) ≤ length s
  place : at + (2 + length_of f) ≡ length (a ++ encode f)
  rest : s ≡ (a ++ encode f) ++ t

front : (f : Form) → Fitting f → (s a t : List ℕ) (at : ℕ) → s ≡ a ++ (encode f ++ t) → at ≡ length a → Front f s a t at
front f g s a t at e i =
    let l = encode_length f (fitting_sized f g) in
    let long : length s ≡ length a + (length (encode f) + length t) = rw (e, length-append a (encode f ++ t), length-append (encode f) t) in
    record {
      says = rw (e, i) (reads_back f (fitting_narrow f g) a t);
      whole = omega arith;
      place = omega (arith, length-append a (encode f));
      rest = e ∙ sym (append_assoc a (encode f) t);
    }

-- ---- the events and segments that are written from `at` on; the segments begin at q

record Back (s : List ℕ) (at k q n least : ℕ) (fs : List Form) : Type 0 where
  events : good_events s at k ≡ true
  happened : events_from s at k ≡ events_of fs
  good : good_from false n s q least ≡ true
  seen : segments_at s q ≡ seen_of fs

module _ (s : List ℕ) where
  -- a record of another kind is no phase
  not_phase : (at : ℕ) → number kind s at ≡ gap_kind → good_phase s at ≡ false
  not_phase at e = go (good_phase s at) refl
    where
      go : (b : Bool) → good_phase s at ≡ b → b ≡ false
      go true i = absurd (omega (arith, (phase_holds s at i).kind))
      go false i = refl

  end_back : (at q n least : ℕ) → q ≡ at → at ≡ length s → length s < q + n → Back s at 0 q n least []
  unfolding good_events events_from events_of seen_of
  end_back at q zero least z e h = absurd (omega arith)
  end_back at q (suc n) least z e h =
      let i : q ≡ length s = omega arith in
      record { events = refl; happened = refl; good = at_end false s q least n i; seen = segments_end s q i }

  phase_back : (p : Forms.Phase) (at n least : ℕ) (fs : List Form) → GoodPhase least p → at + phase_size ≤ length s → Says (all_fields (phase p)) s at 0
      → Back s (at + phase_size) p.events (at + phase_size + event_size * p.events) n (instant p.end) fs → Back s at 0 at (suc n) least (phase p ∷ fs)
  unfolding good_events events_from events_of seen_of
  phase_back p at n least fs g h y on =
      let i = phase_is s at p least g h y in
      let t = phase_holds s at i.good in
      let l : at < length s = omega arith in
      let o : least ≤ from_at s at = rw i.from g.order in
      let v : good_events s (at + phase_size) (count_at s at) ≡ true = rw i.count on.events in
      record {
        events = refl;
        happened = refl;
        good = phase_on false s at least l i.good o n ∙ both v (rw (i.to, i.count) on.good);
        seen = segments_phase s at l t.kind ∙ rw (i.from, i.to, i.phase, i.evidence, i.count, on.happened, on.seen);
      }

  gap_back : (g : Forms.Gap) (at n least : ℕ) (fs : List Form) → GoodGap least g → at + gap_size ≤ length s → Says (all_fields (unknown g)) s at 0
      → Back s (at + gap_size) 0 (at + gap_size) n (instant g.end) fs → Back s at 0 at (suc n) least (unknown g ∷ fs)
  unfolding good_events events_from events_of seen_of
  gap_back g at n least fs o h y on =
      let i = gap_is s at g least o h y in
      let t = gap_holds s at i.good in
      let l : at < length s = omega arith in
      let f : least ≤ from_at s at = rw i.from o.order in
      record {
        events = refl;
        happened = refl;
        good = gap_on false s at least l (not_phase at t.kind) i.good f n ∙ rw i.to on.good;
        seen = segments_gap s at l t.kind ∙ rw (i.from, i.to, on.seen);
      }

  event_back : (e : Forms.Event) (at k q n least : ℕ) (fs : List Form) → GoodEvent e → at + event_size ≤ length s → Says (all_fields (event e)) s at 0
      → Back s (at + event_size) k q n least fs → Back s at (suc k) q n least (event e ∷ fs)
  unfolding good_events events_from events_of seen_of
  event_back e at k q n least fs g h y on =
      let i = event_is s at e g h y in
      record { events = both i.0 on.events; happened = ap₂ ◌∷◌ i.1 on.happened; good = on.good; seen = on.seen }

  given : (fs : List Form) (least k : ℕ) → Owing least k fs → (a : List ℕ) (at q n : ℕ) → s ≡ a ++ encode_all fs → at ≡ length a → q ≡ at + event_size * k
      → length s < q + n → Back s at k q n least fs
  unfolding Owing encode_all
  given [] least zero o a at q n e i j h =
      end_back at q n least (omega arith) (omega (arith, ap length e, length-append {A = ℕ} a [])) h
  given [] least (suc k) o a at q n e i j h = absurd o
  given (phase p ∷ fs) least zero o a at q zero e i j h = let f = front (phase p) o.0.fits s a (encode_all fs) at e i in absurd (omega (arith, f.whole))
  given (phase p ∷ fs) least zero o a at q (suc n) e i j h =
      let f = front (phase p) o.0.fits s a (encode_all fs) at e i in
      let z : q ≡ at = omega arith in
      let on = given fs (instant p.end) p.events o.1 (a ++ encode (phase p)) (at + phase_size) (at + phase_size + event_size * p.events) n f.rest f.place refl (omega arith) in
      rw z (phase_back p at n least fs o.0 f.whole f.says on)
  given (phase p ∷ fs) least (suc k) o a at q n e i j h = absurd o
  given (unknown g ∷ fs) least zero o a at q zero e i j h = let f = front (unknown g) o.0.fits s a (encode_all fs) at e i in absurd (omega (arith, f.whole))
  given (unknown g ∷ fs) least zero o a at q (suc n) e i j h =
      let f = front (unknown g) o.0.fits s a (encode_all fs) at e i in
      let z : q ≡ at = omega arith in
      let on = given fs (instant g.end) zero o.1 (a ++ encode (unknown g)) (at + gap_size) (at + gap_size) n f.rest f.place (omega arith) (omega arith) in
      rw z (gap_back g at n least fs o.0 f.whole f.says on)
  given (unknown g ∷ fs) least (suc k) o a at q n e i j h = absurd o
  given (event x ∷ fs) least zero o a at q n e i j h = absurd o
  given (event x ∷ fs) least (suc k) o a at q n e i j h =
      let f = front (event x) o.0.fits s a (encode_all fs) at e i in
      let on = given fs least k o.1 (a ++ encode (event x)) (at + event_size) q n f.rest f.place (omega arith) h in
      event_back x at k q n least fs o.0 f.whole f.says on
  given (point m ∷ fs) least k o a at q n e i j h = absurd o
  given (mark r ∷ fs) least k o a at q n e i j h = absurd o
  given (day t ∷ fs) least k o a at q n e i j h = absurd o
  given (tally t ∷ fs) least k o a at q n e i j h = absurd o

pub written : (fs : List Form) → RowFrom 0 fs → (good_row (encode_all fs) ≡ true) × (segments (encode_all fs) ≡ seen_of fs)
unfolding good_row
written fs o =
    let s = encode_all fs in
    let b = given s fs 0 0 o [] 0 0 (enough s) refl refl (omega arith) (omega arith) in
    (b.good, b.seen)
