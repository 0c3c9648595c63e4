-- The events found and sought, as the code finds and seeks them. Assumes nothing.
use Prim.Native.Nat.{ℕ, zero, suc, ◌+◌, ◌-◌, ◌*◌, ◌≤◌, ◌<◌, max}
use mathlib.Core.Path.{◌≡◌, refl, sym, ap, ap₂, ◌∙◌}
use mathlib.Core.Bool.{Bool, true, false, cond, ◌&&◌}
use mathlib.Core.List.{List, [], ◌∷◌, ◌++◌, map}
use native.Mathlib.Omega.{arith}
use lib.Dec.{leb}
use lib.ListN.{length, get_or, drop, drop_of_length-le}
use lib.Seq.{drop-cons}
use Rattle.zone.specs.Zone.{Zone, date_at}
use Rattle.records.specs.Records.{Event, event_at}
use Rattle.venue.specs.Opening.{day_of}
use Rattle.records.specs.Limits.{base}
use Rattle.events.specs.declared.Occurrence.{Occurrence}
use Rattle.events.specs.declared.Search.{Search}
use Rattle.events.specs.Happenings.{occurrence, happens, on_times, on_date, on_dates, found, most_on_date}
use Rattle.events.specs.Seeking.{met, sought}

-- ---- one after the other

pub sought_append : (s : Search) (os ps : List Occurrence) → sought s (os ++ ps) ≡ sought (sought s os) ps
unfolding sought
sought_append s [] ps = refl
sought_append s (o ∷ os) ps = sought_append (met s o) os ps

-- ---- a list whose elements have events, passed one after the other: i of them are passed, each with at most so many events

pub record Passing (f : List ℕ → List Occurrence) (whole : List ℕ) (most : ℕ) (s t : Search) (i : ℕ) : Type 0 where
  pub inside : i ≤ length whole
  pub same : sought s (f whole) ≡ sought t (f (drop i whole))
  pub few : t.count ≤ s.count + most * i

module _ {f : List ℕ → List Occurrence} {whole : List ℕ} {most : ℕ} where
  pub pass_one : {s t r : Search} {i x : ℕ} → Passing f whole most s t i → i < length whole → x ≡ get_or whole i 0
      → sought t (f (x ∷ drop (i + 1) whole)) ≡ sought r (f (drop (i + 1) whole)) → r.count ≤ t.count + most → Passing f whole most s r (i + 1)
  pass_one {s} {t} {r} {i} {x} p h e q n =
      let k : suc i ≡ i + 1 = omega arith in
      record {
        inside = omega arith;
        same = p.same ∙ ap (λ (l : List ℕ). sought t (f l)) (drop-cons whole i 0 h ∙ ap₂ (λ (y j : ℕ). y ∷ drop j whole) (sym e) k) ∙ q;
        few = omega (arith, p.few);
      }

  pub pass_end : {s t : Search} {i : ℕ} → f [] ≡ [] → Passing f whole most s t i → length whole ≤ i
      → (t ≡ sought s (f whole)) × (t.count ≤ s.count + most * i)
  unfolding sought
  pass_end {s} {t} {i} none p h = (sym (p.same ∙ ap (λ (l : List ℕ). sought t (f l)) (drop_of_length-le whole h) ∙ ap (sought t) none), p.few)

count_by : {r t : Search} → r ≡ t → r.count ≡ t.count
count_by e = ap (λ (a : Search). a.count) e

-- ---- the times of an event

module _ (z : Zone) (from to d : ℕ) (e : Event) where
  abbrev Timing : Search → Search → ℕ → Type 0
  Timing s t i = Passing (on_times z from to d e) e.times 1 s t i

  time_in : (t : Search) (x : ℕ) (xs : List ℕ) → happens from to (occurrence z d e x) ≡ true
      → sought t (on_times z from to d e (x ∷ xs)) ≡ sought (met t (occurrence z d e x)) (on_times z from to d e xs)
  unfolding sought on_times
  time_in t x xs h = simp h

  time_out : (t : Search) (x : ℕ) (xs : List ℕ) → happens from to (occurrence z d e x) ≡ false
      → sought t (on_times z from to d e (x ∷ xs)) ≡ sought t (on_times z from to d e xs)
  unfolding on_times
  time_out t x xs h = simp h

  module _ {s t : Search} {i : ℕ} (p : Timing s t i) (h : i < length e.times) {x : ℕ} {o : Occurrence} {r : Search}
      (read : x ≡ get_or e.times i 0) (made : o ≡ occurrence z d e x) where
    pub time_met : happens from to o ≡ true → r ≡ met t o → Timing s r (i + 1)
    time_met y q =
        let xs = drop (i + 1) e.times in
        let m = q ∙ ap (met t) made in
        let n = count_by m in
        pass_one p h read (time_in t x xs (ap (happens from to) (sym made) ∙ y) ∙ ap (λ (a : Search). sought a (on_times z from to d e xs)) (sym m)) (omega arith)

    pub time_passed : happens from to o ≡ false → r ≡ t → Timing s r (i + 1)
    time_passed y q =
        let xs = drop (i + 1) e.times in
        let n = count_by q in
        pass_one p h read (time_out t x xs (ap (happens from to) (sym made) ∙ y) ∙ ap (λ (a : Search). sought a (on_times z from to d e xs)) (sym q)) (omega arith)

  pub times_end : {s t : Search} {i : ℕ} → Timing s t i → length e.times ≤ i → i ≤ 8
      → (t ≡ sought s (on_times z from to d e e.times)) × (t.count ≤ s.count + base.times)
  unfolding on_times
  times_end p h few = let w = pass_end refl p h in (w.0, omega (arith, w.1))

-- ---- the events of a date

module _ (z : Zone) (from to d : ℕ) (book places : List ℕ) where
  abbrev Dating : Search → Search → ℕ → Type 0
  Dating s t i = Passing (λ (ps : List ℕ). on_date z from to d (map (event_at book) ps)) places 8 s t i

  abbrev has_date : Event → Bool
  has_date e = leb (day_of e.first) d && leb d (day_of e.last)

  event_in : (t : Search) (e : Event) (es : List Event) → has_date e ≡ true
      → sought t (on_date z from to d (e ∷ es)) ≡ sought (sought t (on_times z from to d e e.times)) (on_date z from to d es)
  unfolding on_date
  event_in t e es h =
      let own = on_times z from to d e e.times in
      let rest = on_date z from to d es in
      ap (λ (b : Bool). sought t (cond b (own ++ rest) rest)) h ∙ sought_append t own rest

  event_out : (t : Search) (e : Event) (es : List Event) → has_date e ≡ false → sought t (on_date z from to d (e ∷ es)) ≡ sought t (on_date z from to d es)
  unfolding on_date
  event_out t e es h = simp h

  -- the first and last date as they are read
  dated : (p : ℕ) {a b : ℕ} {y : Bool} → a ≡ day_of (event_at book p).first → b ≡ day_of (event_at book p).last → leb a d && leb d b ≡ y
      → has_date (event_at book p) ≡ y
  dated p i j h = ap₂ (λ (a b : ℕ). leb a d && leb d b) (sym i) (sym j) ∙ h

  module _ {s t : Search} {i : ℕ} (on : Dating s t i) (h : i < length places) {p a b : ℕ} {r : Search} (read : p ≡ get_or places i 0)
      (first_read : a ≡ day_of (event_at book p).first) (last_read : b ≡ day_of (event_at book p).last)
    where
      pub event_met : {m : Search} → leb a d && leb d b ≡ true → m ≡ sought t (on_times z from to d (event_at book p) (event_at book p).times)
          → m.count ≤ t.count + 8 → r ≡ m
          → Dating s r (i + 1)
      event_met y q n same =
          let k = count_by same in
          let rest = map (event_at book) (drop (i + 1) places) in
          pass_one on h read (event_in t (event_at book p) rest (dated p first_read last_read y) ∙ ap (λ (w : Search). sought w (on_date z from to d rest)) (sym (same ∙ q))) (omega arith)

      pub event_passed : leb a d && leb d b ≡ false → r ≡ t → Dating s r (i + 1)
      event_passed y q =
          let rest = map (event_at book) (drop (i + 1) places) in
          let n = count_by q in
          pass_one on h read (event_out t (event_at book p) rest (dated p first_read last_read y) ∙ ap (λ (w : Search). sought w (on_date z from to d rest)) (sym q)) (omega arith)

  pub events_end : {s t : Search} {i : ℕ} → Dating s t i → length places ≤ i → i ≤ base.events
      → (t ≡ sought s (on_date z from to d (map (event_at book) places))) × (t.count ≤ s.count + most_on_date)
  unfolding on_date
  events_end on h few = let w = pass_end refl on h in (w.0, omega (arith, w.1))

-- ---- the dates of a span, from the date a to the date b: after s, which passed a, all up to `date` are passed

module _ (z : Zone) (from to : ℕ) (es : List Event) (a b : ℕ) where
  pub record Spanning (s t : Search) (date : ℕ) : Type 0 where
    pub low : a ≤ date
    pub high : date ≤ max a b
    pub same : sought s (on_dates z from to es (suc a) (b - a)) ≡ sought t (on_dates z from to es (suc date) (b - date))
    pub few : t.count ≤ most_on_date * (date - a + 1)

  date_in : (t : Search) (d n : ℕ) → sought t (on_dates z from to es d (suc n)) ≡ sought (sought t (on_date z from to d es)) (on_dates z from to es (suc d) n)
  unfolding on_dates
  date_in t d n = sought_append t (on_date z from to d es) (on_dates z from to es (suc d) n)

  pub date_one : {s t r : Search} {date : ℕ} → Spanning s t date → date < b → r ≡ sought t (on_date z from to (date + 1) es)
      → r.count ≤ t.count + most_on_date → Spanning s r (date + 1)
  date_one {s} {t} {r} {date} p h q n =
      let i : suc date ≡ date + 1 = omega arith in
      let k : b - date ≡ suc (b - (date + 1)) = omega arith in
      record {
        low = omega (arith, p.low);
        high = omega arith;
        same =
            p.same
            ∙ ap (λ (m : ℕ). sought t (on_dates z from to es (suc date) m)) k
            ∙ ap (λ (x : ℕ). sought t (on_dates z from to es x (suc (b - (date + 1))))) i
            ∙ date_in t (date + 1) (b - (date + 1))
            ∙ ap (λ (w : Search). sought w (on_dates z from to es (suc (date + 1)) (b - (date + 1)))) (sym q);
        few = omega (arith, p.few, p.low);
      }

  pub dates_few : {s t : Search} {date : ℕ} → Spanning s t date → t.count ≤ most_on_date * (b + 1)
  dates_few p = omega (arith, p.low, p.high, p.few)

  pub dates_end : (none : Search) {s t : Search} {date : ℕ} → s ≡ sought none (on_date z from to a es) → Spanning s t date → b ≤ date
      → a ≡ date_at z from → b ≡ date_at z to
      → t ≡ sought none (found z es from to)
  unfolding sought on_dates found
  dates_end none {s} {t} {date} q p h i j =
      let k : b - date ≡ 0 = omega arith in
      sym (p.same ∙ ap (λ (m : ℕ). sought t (on_dates z from to es (suc date) m)) k)
      ∙ ap (λ (w : Search). sought w (on_dates z from to es (suc a) (b - a))) q
      ∙ sym (date_in none a (b - a))
      ∙ ap₂ (λ (m n : ℕ). sought none (on_dates z from to es m (suc (n - m)))) i j

-- ---- a venue without events

no_dates : (z : Zone) (from to d n : ℕ) → on_dates z from to [] d n ≡ []
unfolding on_dates on_date
no_dates z from to d zero = refl
no_dates z from to d (suc n) = no_dates z from to (suc d) n

pub none_found : (z : Zone) (book places : List ℕ) (from to : ℕ) → length places ≡ 0 → found z (map (event_at book) places) from to ≡ []
unfolding found
none_found z book [] from to e = no_dates z from to (date_at z from) (suc (date_at z to - date_at z from))
none_found z book (p ∷ ps) from to e = absurd (omega arith)
