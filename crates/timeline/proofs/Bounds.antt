-- What the segments of an accepted book show fits the fields of an answer. Assumes nothing.
use mathlib.Core.Path.{◌≡◌, refl, subst}
use mathlib.Core.Bool.{Bool, true, false, cond, ◌&&◌}
use mathlib.Core.List.{List, [], ◌∷◌, ◌++◌, map}
use Rattle.std.specs.Prelude.{Option, None, Some}
use Prim.Native.Nat.{ℕ, zero, suc, ◌+◌, ◌-◌, ◌*◌, ◌^◌, ◌≤◌, ◌<◌, min, max}
use native.Mathlib.Omega.{arith}
use lib.Dec.{ltb, leb, eqb}
use lib.IntN.{ℤ, pos, negsuc}
use lib.ListN.{length, length-append}
use mir.Syntax.{w64}
use mir.Val.{SFits}
use Rattle.wire.specs.Signs.{since, turned}
use Rattle.wire.proofs.Reading.{field_below}
use Rattle.wire.proofs.Signs.{meant_fits}
use Rattle.zone.specs.Units.{day_ns, most_offset_ns, last_instant, nearest_reading, reading_at}
use Rattle.zone.specs.Zone.{Zone, zone_of, date_at, instant_by_before, instant_by_after, reads, resolved, resolve}
use Rattle.zone.specs.Answers.{Valid, uncertain, width, wider, widest_of}
use Rattle.zone.specs.declared.Uncertainty.{Uncertainty}
use Rattle.zone.specs.declared.Uncertainty.TheVariants.{Exact, PublishedGranularity, PublishedBound, ProcessStart}
use Rattle.zone.proofs.Readings.{before_near, after_near, taken_near}
use Rattle.zone.proofs.Domain.{taken_in}
use Rattle.wire.specs.Fields.{field}
use Rattle.records.specs.Layout.{event_kind, number, integer, rule_label, rule_evidence, rule_derived, event_code, event_evidence, nanoseconds, text}
use Rattle.records.specs.Limits.{base}
use Rattle.records.specs.Records.{Published, Point, Rule, Event, Coverage, rule_at, event_at}
use Rattle.records.specs.Book.{refusal, records, last_phase}
use Rattle.records.specs.Valid.{Bytes, FitsRule, FitsEvent}
use Rattle.venue.specs.Opening.{day_of, offset_of, coverage_of, rules_of, events_of, ats_of, offsets_of, event_places}
use Rattle.venue.specs.Reading.{published, EachPoint, GoodRule, ListedRule}
use Rattle.venue.proofs.Laws.{good_rule, places_listed, events_listed, events_count, zone_valid}
use Rattle.spans.specs.Spans.{Span, Body, keep, clip, reach, joins, joined_span, join_from, joined}
use Rattle.spans.specs.Timeline.{Edge, Venue, Part, midnight, raised, cut, of_points, of_rule, spans, walk, turns, unjoined, timeline}
use Rattle.day.specs.Governing.{governing_rule}
use Rattle.day.specs.Days.{boundary_of, values_of}
use Rattle.day.proofs.Listed.{governing_listed}
use Rattle.walk.proofs.Laws.{walk_length}
use Rattle.events.specs.Happenings.{happens, occurrence, on_times, on_date, on_dates, found, insert, by_instant, most_in_span}
use Rattle.events.specs.declared.Occurrence.{Occurrence}
use Rattle.events.proofs.Order.{length_sorted}
use Rattle.events.proofs.Few.{few}
use Rattle.answer.specs.Used.{UsedUncertainty, UsedBoundary}
use Rattle.span_records.specs.Shown.{Shown}
use Rattle.timeline.specs.Segments.{segments, showing, timeline_of}

-- ---- how many events a span has at most, and a segment of a row: all that a walk shows may be joined, and there are two gaps

abbrev pub row_most : ℕ
row_most = most_in_span * (base.points * turns + 2)

-- ---- each of a list

abbrev pub Every : {A : Type 0} → (A → Type 0) → List A → Type 0
Every P [] = Unit {0}
Every P (x ∷ xs) = P x × Every P xs

every_append : {A : Type 0} (P : A → Type 0) (xs ys : List A) → Every P xs → Every P ys → Every P (xs ++ ys)
every_append P [] ys a b = b
every_append P (x ∷ xs) ys a b = (a.0, every_append P xs ys a.1 b)

-- what holds of both branches holds of the one taken
either_way : {A : Type 0} (P : A → Type 0) (q : Bool) {x y : A} → P x → P y → P (cond q x y)
either_way P true h i = h
either_way P false h i = i

-- each body of spans
abbrev pub Bodies : {A : Type 0} → (A → Type 0) → List (Span A) → Type 0
Bodies {A} P ss = Every (λ (s : Span A). P s.body) ss

module _ {A : Type 0} (P : A → Type 0) where
  bodies_append : (xs ys : List (Span A)) → Bodies P xs → Bodies P ys → Bodies P (xs ++ ys)
  bodies_append = every_append (λ (s : Span A). P s.body)

  pub bodies_keep : (a b : ℕ) (x : A) (rest : List (Span A)) → P x → Bodies P rest → Bodies P (keep a b x rest)
  unfolding keep
  bodies_keep a b x rest p e = either_way (Bodies P) (ltb a b) (p, e) e

  bodies_clip : (lo hi : ℕ) (ss : List (Span A)) → Bodies P ss → Bodies P (clip lo hi ss)
  unfolding clip
  bodies_clip lo hi [] e = tt
  bodies_clip lo hi (s ∷ ss) e = bodies_keep (max lo s.from) (min hi s.to) s.body (clip lo hi ss) e.0 (bodies_clip lo hi ss e.1)

-- joining adds what its spans count
module _ {A : Type 0} (B : Body A) (P : ℕ → A → Type 0) (more : (m n : ℕ) (a : A) → m ≤ n → P m a → P n a)
    (merges : (m n : ℕ) (a b : A) → P m a → P n b → P (m + n) (B.merge a b)) where
  from_bodies : (m n : ℕ) (s : Span A) (ss : List (Span A)) → P m s.body → Bodies (P most_in_span) ss → m + most_in_span * length ss ≤ n
      → Bodies (P n) (join_from B s ss)
  unfolding join_from
  from_bodies m n s [] p e h = (more m n s.body (omega arith) p, tt)
  from_bodies m n s (r ∷ rs) p e h =
      either_way (Bodies (P n)) (joins B s r)
      (from_bodies (m + most_in_span) n (joined_span B s r) rs (merges m most_in_span s.body r.body p e.0) e.1 (omega arith))
      (more m n s.body (omega arith) p, from_bodies most_in_span n r rs e.0 e.1 (omega arith))

  joined_bodies : (n : ℕ) (ss : List (Span A)) → Bodies (P most_in_span) ss → most_in_span * length ss ≤ n → Bodies (P n) (joined B ss)
  unfolding joined
  joined_bodies n [] e h = tt
  joined_bodies n (s ∷ ss) e h = from_bodies most_in_span n s ss e.0 e.1 (omega arith)

-- ---- uncertainties

since_small : (z : ℤ) → SFits w64 z → since 0 z < 2 ^ 63
since_small (pos n) f = let h = f.sfits in omega arith
since_small (negsuc n) f = omega arith

published_used : (u : Published) → SFits w64 u.nanoseconds → u.text < 2 ^ 16 → UsedUncertainty (published u)
published_used u f h = go (eqb u.tag 0) (eqb u.tag 1) (eqb u.tag 2)
  where
    n : ℕ
    n = since 0 u.nanoseconds

    go : (a b c : Bool)
        → UsedUncertainty (cond a Exact (cond b (PublishedGranularity n) (cond c (PublishedBound n u.text) (ProcessStart u.text))))
    go true b c = tt
    go false true c = since_small u.nanoseconds f
    go false false true = (since_small u.nanoseconds f, h)
    go false false false = h

widest_used : (a b : Uncertainty) → UsedUncertainty a → UsedUncertainty b → UsedUncertainty (widest_of a b)
widest_used a b h i = go (width a) (width b)
  where
    go : (v w : Option ℕ) → UsedUncertainty (wider v w a b)
    go None w = h
    go (Some x) None = i
    go (Some x) (Some y) = either_way UsedUncertainty (leb y x) h i

-- ---- a good rule and a good event, whose numbers fit

pub record RuleFits (r : Rule) : Type 0 where
  pub good : GoodRule r
  pub numbers : FitsRule r
  pub uncertainty : UsedUncertainty (published r.uncertainty)

record EventFits (e : Event) : Type 0 where
  numbers : FitsEvent e
  uncertainty : UsedUncertainty (published e.uncertainty)

-- ---- what is shown

pub record Used (o : Occurrence) : Type 0 where
  pub code : o.code < 2 ^ 16
  pub boundary : UsedBoundary o.boundary
  pub evidence : o.evidence < 2 ^ 16

-- with at most n events
pub record Good (n : ℕ) (x : Shown) : Type 0 where
  pub start : UsedBoundary x.held.start
  pub end : UsedBoundary x.held.end
  pub phase : x.held.phase ≤ last_phase
  pub rule : RuleFits x.held.rule
  pub whole : UsedUncertainty x.whole
  pub events : Every Used x.events
  pub few : length x.events ≤ n

abbrev pub Shows : ℕ → Option Shown → Type 0
Shows n None = Unit {0}
Shows n (Some x) = Good n x

shows_more : (m n : ℕ) (a : Option Shown) → m ≤ n → Shows m a → Shows n a
shows_more m n None h g = tt
shows_more m n (Some x) h g =
    let k = g.few in
    record { start = g.start; end = g.end; phase = g.phase; rule = g.rule; whole = g.whole; events = g.events; few = omega arith }

shows_merged : (m n : ℕ) (a b : Option Shown) → Shows m a → Shows n b → Shows (m + n) (segments.merge a b)
shows_merged m n None b g h = tt
shows_merged m n (Some a) None g h = shows_more m (m + n) (Some a) (omega arith) g
shows_merged m n (Some a) (Some b) g h =
    record {
      start = g.start;
      end = h.end;
      phase = g.phase;
      rule = g.rule;
      whole = widest_used a.whole b.whole g.whole h.whole;
      events = every_append Used a.events b.events g.events h.events;
      few = let k = g.few in let l = h.few in omega (arith, length-append a.events b.events);
    }

-- ---- a zone

module _ (first : ℕ) (ats os : List ℕ) (ok : Valid first ats os) where
  abbrev z : Zone
  z = zone_of first ats os

  -- a doubt's instants are in use
  uncertain_used : (x : ℕ) (u : Uncertainty) → UsedUncertainty u → UsedUncertainty (uncertain (resolve z (nearest_reading x)) u)
  unfolding resolve
  uncertain_used x u h = go (reads z a y) (reads z b y) (eqb a b)
    where
      y : ℕ
      y = nearest_reading x

      a : ℕ
      a = instant_by_before z y

      b : ℕ
      b = instant_by_after z y

      high : y + most_offset_ns ≤ last_instant
      high = omega arith

      a_in : a ≤ last_instant
      a_in = let n = (before_near first ats os ok y (omega arith)).1 in omega (arith, n, high)

      b_in : b ≤ last_instant
      b_in = let n = (after_near first ats os ok y (omega arith)).1 in omega (arith, n, high)

      go : (p q r : Bool) → UsedUncertainty (uncertain (resolved p q r a b) u)
      go true true true = h
      go true true false = (a_in, b_in)
      go true false r = h
      go false true r = h
      go false false r = (a_in, b_in)

  -- ---- events

  module _ (from to : ℕ) where
    occurrence_used : (d : ℕ) (e : Event) (x : ℕ) → EventFits e → Used (occurrence z d e x)
    occurrence_used d e x f =
        record {
          code = f.numbers.code;
          boundary = record {
            at = (taken_in first ats os ok (reading_at d x)).1;
            uncertainty = uncertain_used (reading_at d x) (published e.uncertainty) f.uncertainty;
          };
          evidence = f.numbers.evidence;
        }

    times_used : (d : ℕ) (e : Event) (xs : List ℕ) → EventFits e → Every Used (on_times z from to d e xs)
    unfolding on_times
    times_used d e [] f = tt
    times_used d e (x ∷ xs) f =
        let rest = times_used d e xs f in
        either_way (Every Used) (happens from to (occurrence z d e x)) (occurrence_used d e x f, rest) rest

    date_used : (d : ℕ) (es : List Event) → Every EventFits es → Every Used (on_date z from to d es)
    unfolding on_date
    date_used d [] f = tt
    date_used d (e ∷ es) f =
        let rest = date_used d es f.1 in
        either_way (Every Used) (leb (day_of e.first) d && leb d (day_of e.last))
        (every_append Used (on_times z from to d e e.times) (on_date z from to d es) (times_used d e e.times f.0) rest) rest

    dates_used : (es : List Event) → Every EventFits es → (d n : ℕ) → Every Used (on_dates z from to es d n)
    unfolding on_dates
    dates_used es f d zero = tt
    dates_used es f d (suc n) =
        every_append Used (on_date z from to d es) (on_dates z from to es (suc d) n) (date_used d es f) (dates_used es f (suc d) n)

    found_used : (es : List Event) → Every EventFits es → Every Used (found z es from to)
    unfolding found
    found_used es f = dates_used es f (date_at z from) _

insert_used : (o : Occurrence) (os : List Occurrence) → Used o → Every Used os → Every Used (insert o os)
unfolding insert
insert_used o [] h e = (h, tt)
insert_used o (p ∷ ps) h e = either_way (Every Used) (leb o.boundary.at.0 p.boundary.at.0) (h, e) (e.0, insert_used o ps h e.1)

sorted_used : (os : List Occurrence) → Every Used os → Every Used (by_instant os)
unfolding by_instant
sorted_used [] e = tt
sorted_used (o ∷ os) e = insert_used o (by_instant os) e.0 (sorted_used os e.1)

-- ---- a walk

module _ (first : ℕ) (ats os : List ℕ) (ok : Valid first ats os)
    (g : ℕ → Option Rule) (fits : (d : ℕ) (r : Rule) → g d ≡ Some r → RuleFits r)
    (es : List Event) (all : Every EventFits es)
    (rare : (from to : ℕ) → to ≤ from + (day_ns + most_offset_ns + most_offset_ns) → length (found (zone_of first ats os) es from to) ≤ most_in_span) where
  abbrev zone : Zone
  zone = zone_of first ats os

  abbrev v : Venue (Option Shown)
  v = showing zone g es

  -- the first reading of a date
  unfoldable opens : ℕ → ℕ
  opens d = nearest_reading (reading_at d 0)

  -- a boundary of a date
  record On (d t : ℕ) : Type 0 where
    low : opens d ≤ t + most_offset_ns
    high : t ≤ opens d + day_ns + most_offset_ns
    used : t ≤ last_instant

  taken_on : (d y t : ℕ) → y - most_offset_ns ≤ t → t ≤ y + most_offset_ns → opens d ≤ y → y ≤ opens d + day_ns → t ≤ last_instant → On d t
  taken_on d y t a b c e h = record { low = omega arith; high = omega arith; used = h }

  on_date_law : (d x : ℕ) → (opens d ≤ nearest_reading (reading_at d x)) × (nearest_reading (reading_at d x) ≤ opens d + day_ns)
  unfolding opens
  on_date_law d x = (omega arith, omega arith)

  next_date : (d : ℕ) → (opens d ≤ nearest_reading (reading_at (suc d) 0)) × (nearest_reading (reading_at (suc d) 0) ≤ opens d + day_ns)
  unfolding opens
  next_date d = (omega arith, omega arith)

  -- what is converted on it, and the next midnight
  conv_by : (d e x : ℕ) → (opens d ≤ nearest_reading (reading_at e x)) × (nearest_reading (reading_at e x) ≤ opens d + day_ns)
      → On d (v.conv e x)
  conv_by d e x h =
      let y = nearest_reading (reading_at e x) in
      let n = taken_near first ats os ok y (omega arith) in
      taken_on d y (v.conv e x) n.0 n.1 h.0 h.1 (taken_in first ats os ok (reading_at e x)).1

  later_on : (d a b : ℕ) → On d a → On d b → On d (max a b)
  later_on d a b h i =
      let l = h.low in
      let m = h.high in
      let n = i.high in
      let o = h.used in
      let p = i.used in
      record { low = omega (arith, l); high = omega (arith, m, n); used = omega (arith, o, p) }

  first_on : (d a : ℕ) → On d a → On d (max 0 a)
  first_on d a h = subst (On d) (omega arith) h

  -- what is shown between two boundaries of a date
  body_good : (r : Rule) → RuleFits r → (d : ℕ) (s e : Edge) (p : ℕ) → On d s.at → On d e.at → p ≤ last_phase
      → Shows most_in_span (v.body r s p e)
  body_good r f d s e p a b h =
      let x = uncertain_used first ats os ok (reading_at s.date s.time) (published r.uncertainty) f.uncertainty in
      let y = uncertain_used first ats os ok (reading_at e.date e.time) (published r.uncertainty) f.uncertainty in
      let l = a.low in
      let m = b.high in
      record {
        start = record { at = a.used; uncertainty = x };
        end = record { at = b.used; uncertainty = y };
        phase = h;
        rule = f;
        whole = widest_used (boundary_of zone r s).uncertainty (boundary_of zone r e).uncertainty x y;
        events = sorted_used (found zone es s.at e.at) (found_used first ats os ok s.at e.at es all);
        few = omega (arith, length_sorted (found zone es s.at e.at), rare s.at e.at (omega (arith, l, m)));
      }

  cut_good : (r : Rule) → RuleFits r → (s : Edge) (p : ℕ) (qs : List Point) → On s.date s.at → p ≤ last_phase → EachPoint qs
      → Bodies (Shows most_in_span) (cut v r s p qs)
  unfolding cut
  cut_good r f s p [] o h e =
      let end = raised v s.at (suc s.date) 0 in
      let i = later_on s.date s.at (v.conv (suc s.date) 0) o (conv_by s.date (suc s.date) 0 (next_date s.date)) in
      bodies_keep (Shows most_in_span) s.at end.at (v.body r s p end) [] (body_good r f s.date s end p o i h) tt
  cut_good r f s p (q ∷ qs) o h e =
      let end = raised v s.at s.date q.time in
      let i = later_on s.date s.at (v.conv s.date q.time) o (conv_by s.date s.date q.time (on_date_law s.date q.time)) in
      bodies_keep (Shows most_in_span) s.at end.at (v.body r s p end) (cut v r end q.phase qs) (body_good r f s.date s end p o i h)
      (cut_good r f end q.phase qs i e.1 e.2)

  spans_good : (d : ℕ) → Bodies (Shows most_in_span) (spans v d)
  unfolding spans
  spans_good d = go (g d) refl
    where
      points : (r : Rule) → RuleFits r → (ps : List Point) → EachPoint ps → Bodies (Shows most_in_span) (of_points v r d ps)
      points r f [] e = tt
      points r f (p ∷ ps) e =
          let begins = first_on d (v.conv d p.time) (conv_by d d p.time (on_date_law d p.time)) in
          cut_good r f (raised v 0 d p.time) p.phase ps begins e.1 e.2

      go : (o : Option Rule) → g d ≡ o → Bodies (Shows most_in_span) (of_rule v d o)
      go None e = tt
      go (Some r) e = points r (fits d r e) r.points (fits d r e).good.each

  walk_good : (hi n cursor : ℕ) → Bodies (Shows most_in_span) (walk v hi n cursor)
  unfolding walk
  walk_good hi zero cursor = tt
  walk_good hi (suc n) cursor =
      let clipped = bodies_clip (Shows most_in_span) cursor hi (spans v (v.reads cursor)) (spans_good (v.reads cursor)) in
      either_way (Bodies (Shows most_in_span)) (ltb cursor next)
      (bodies_append (Shows most_in_span) here (walk v hi n next) clipped (walk_good hi n next)) tt
    where
      here : List (Span (Option Shown))
      here = clip cursor hi (spans v (v.reads cursor))

      next : ℕ
      next = reach (min hi (midnight v (suc (v.reads cursor)))) here

  keep_length : (a b : ℕ) (rest : List (Span (Option Shown))) → length (keep a b None rest) ≤ suc (length rest)
  unfolding keep
  keep_length a b rest = go (ltb a b)
    where
      go : (q : Bool) → length (cond q (record { from = a; to = b; body = None } ∷ rest) rest) ≤ suc (length rest)
      go true = omega arith
      go false = omega arith

  -- 3,660 turns of 16 spans, and two gaps, of 1,280 events
  timeline_good : (c w : Part) → Bodies (Shows row_most) (timeline segments v None c w)
  unfolding timeline unjoined
  timeline_good c w =
      let lo = max w.start c.start in
      let hi = min w.end c.end in
      let until = min w.end c.start in
      let since = max w.start c.end in
      let walked = walk v hi turns lo in
      let behind : List (Span (Option Shown)) = keep since w.end None [] in
      let rest = walked ++ behind in
      let l = walk_length v (λ d r e. (fits d r e).good.few) hi turns lo in
      let good = bodies_append (Shows most_in_span) walked behind (walk_good hi turns lo) (bodies_keep (Shows most_in_span) since w.end None [] tt tt) in
      joined_bodies segments Shows shows_more shows_merged row_most (keep w.start until None rest)
      (bodies_keep (Shows most_in_span) w.start until None rest tt good)
      (omega (arith, l, keep_length w.start until rest, length-append walked behind, keep_length since w.end []))

-- ---- an accepted book

module _ (s : List ℕ) (b : Bytes s) where
  two_bytes : (at : ℕ) → field 2 s at < 2 ^ 16
  two_bytes at = omega (arith, field_below 2 s at b)

  nanoseconds_fit : (k p : ℕ) → SFits w64 (integer w64 (nanoseconds k) s p)
  nanoseconds_fit k p = meant_fits w64 (turned w64 (number (nanoseconds k) s p)) (omega arith)

  rule_fits : (p : ℕ) → ListedRule s p → RuleFits (rule_at s p)
  rule_fits p l =
      let t = two_bytes (p + (text 3).from) in
      record {
        good = good_rule s p l;
        numbers = record {
          label = two_bytes (p + rule_label.from);
          evidence = two_bytes (p + rule_evidence.from);
          derived = two_bytes (p + rule_derived.from);
          text = t;
        };
        uncertainty = published_used (rule_at s p).uncertainty (nanoseconds_fit 3 p) t;
      }

  event_fits : (p : ℕ) → EventFits (event_at s p)
  event_fits p =
      let t = two_bytes (p + (text 4).from) in
      record {
        numbers = record { code = two_bytes (p + event_code.from); evidence = two_bytes (p + event_evidence.from); text = t };
        uncertainty = published_used (event_at s p).uncertainty (nanoseconds_fit 4 p) t;
      }

  events_fit : (ps : List ℕ) → Every EventFits (map (event_at s) ps)
  events_fit [] = tt
  events_fit (p ∷ ps) = (event_fits p, events_fit ps)

  -- every segment of its timelines
  pub segments_good : refusal base s ≡ 0 → (c : Coverage) → coverage_of (records s) ≡ Some c → (w : Part)
      → Bodies (Shows row_most) (timeline_of (values_of (records s) c) w)
  segments_good e c q w =
      let rs = records s in
      let ok = zone_valid s e c q in
      let o = offset_of c.offset in
      let v = values_of rs c in
      let n = events_count s e in
      timeline_good o (ats_of rs) (offsets_of rs) ok (governing_rule (rules_of rs))
      (λ d r i. let l = governing_listed s e d r i in subst RuleFits l.is (rule_fits l.place l.listed)) (events_of rs)
      (subst (Every EventFits) (events_listed s e) (events_fit (event_places s)))
      (λ from to h. subst (λ (l : List Event). length (found v.zone l from to) ≤ most_in_span) (events_listed s e)
      (few s o (ats_of rs) (offsets_of rs) (event_places s) ok (places_listed event_kind s e) (omega (arith, n)) from to h))
      v.coverage w
