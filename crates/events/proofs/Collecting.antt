-- What is collected are the events found, each with its place. Assumes nothing.
use Rattle.std.specs.Prelude.{None, Option, Some, ℕ}
use Prim.Native.Nat.{ℕ, zero, suc, ◌+◌, ◌-◌, ◌≤◌, ◌<◌}
use mathlib.Core.Path.{◌≡◌, refl, sym, ap, ap₂, subst, ◌∙◌}
use mathlib.Core.Bool.{Bool, true, false, cond, ◌&&◌}
use mathlib.Core.List.{List, [], ◌∷◌, ◌++◌, map, map-append}
use native.Mathlib.Nat.{not-suc-le-zero, le_of_suc-le-suc}
use native.Mathlib.Omega.{arith}
use borrow.Author.Tests.{leb-true}
use lib.Dec.{leb, ltb}
use lib.ListN.{length, get_or, drop, length-map}
use lib.Seq.{sets, sets-eq}
use Rattle.zone.specs.Units.{day_ns}
use Rattle.zone.specs.Zone.{Zone, zone_of, date_at}
use Rattle.zone.specs.Answers.{Valid, boundary_at}
use Rattle.zone.specs.Steady.{steady_of, day_by, midnight_by}
use Rattle.zone.specs.declared.Boundary.{Boundary}
use Rattle.zone.proofs.Shifts.{in_date, steady_date, steady_boundary}
use Rattle.records.specs.Records.{Event, event_at}
use Rattle.venue.specs.Opening.{day_of}
use Rattle.venue.specs.Reading.{EachTime, published, ListedEvent, ListedEvents}
use Rattle.venue.proofs.Laws.{good_event}
use Rattle.events.specs.declared.Occurrence.{Occurrence}
use Rattle.events.specs.Happenings.{occurrence, happens, on_times, on_date, on_dates, found}
use Rattle.events.specs.Keeping.{Kept, instants, places, kept_times, kept_date, kept_dates, steady_in, kept_by, Collects, kept_at, kept_as, listed, kept_of}
use Rattle.events.proofs.Keeping.{dates_forward}

-- an event stands at each of the places, one after the other
abbrev EachListed : List ℕ → List ℕ → Type 0
EachListed book [] = Unit {0}
EachListed book (p ∷ ps) = ListedEvent book p × EachListed book ps

each_listed : (book events : List ℕ) → ListedEvents book events → EachListed book events
each_listed book [] l = tt
each_listed book (p ∷ ps) l = (l 0 (omega arith), each_listed book ps (λ i h. l (suc i) (omega arith)))

-- ---- where the clock is steady

module _ (book : List ℕ) (z : Zone) (from to o : ℕ)
    (shift : (d x : ℕ) (e : Event) → date_at z from ≤ d → d ≤ date_at z to → x ≤ day_ns
    → boundary_at z d x (published e.uncertainty) ≡ record { at = record { 0 = midnight_by o d + x }; uncertainty = published e.uncertainty })
  where
    module _ (d : ℕ) (a : date_at z from ≤ d) (b : d ≤ date_at z to) where
      one_found : (p x : ℕ) → x < day_ns → occurrence z d (event_at book p) x ≡ kept_at book (midnight_by o d + x) p
      one_found p x h =
          let e = event_at book p in
          ap (λ (y : Boundary). record { code = e.code; boundary = y; evidence = e.evidence }) (shift d x e a b (omega arith))

      times_found : (p : ℕ) (xs : List ℕ) → EachTime xs
          → map (kept_as book) (kept_times from to (midnight_by o d) p xs) ≡ on_times z from to d (event_at book p) xs
      unfolding kept_times on_times
      times_found p [] t = refl
      times_found p (x ∷ xs) t = go (one_found p x t.0) (times_found p xs t.1)
        where
          m : ℕ
          m = midnight_by o d + x

          more : List Kept
          more = kept_times from to (midnight_by o d) p xs

          rest : List Occurrence
          rest = on_times z from to d (event_at book p) xs

          by : (q : Bool) → map (kept_as book) more ≡ rest
              → map (kept_as book) (cond q (record { at = m; place = p } ∷ more) more) ≡ cond q (kept_at book m p ∷ rest) rest
          by true e = ap (◌∷◌ (kept_at book m p)) e
          by false e = e

          go : occurrence z d (event_at book p) x ≡ kept_at book m p → map (kept_as book) more ≡ rest
              → map (kept_as book) (cond (leb from m && ltb m to) (record { at = m; place = p } ∷ more) more)
              ≡ cond (happens from to (occurrence z d (event_at book p) x)) (occurrence z d (event_at book p) x ∷ rest) rest
          go e f = by (leb from m && ltb m to) f ∙ ap (λ (y : Occurrence). cond (happens from to y) (y ∷ rest) rest) (sym e)

      date_found : (ps : List ℕ) → EachListed book ps
          → map (kept_as book) (kept_date book from to d (midnight_by o d) ps) ≡ on_date z from to d (map (event_at book) ps)
      unfolding kept_date on_date
      date_found [] l = refl
      date_found (p ∷ ps) l = go (leb (day_of (event_at book p).first) d && leb d (day_of (event_at book p).last)) (date_found ps l.1)
        where
          now : List Kept
          now = kept_times from to (midnight_by o d) p (event_at book p).times

          more : List Kept
          more = kept_date book from to d (midnight_by o d) ps

          go : (q : Bool) → map (kept_as book) more ≡ on_date z from to d (map (event_at book) ps)
              → map (kept_as book) (cond q (now ++ more) more)
              ≡ cond q (on_times z from to d (event_at book p) (event_at book p).times ++ on_date z from to d (map (event_at book) ps)) (on_date z from to d (map (event_at book) ps))
          go true e = map-append (kept_as book) now more ∙ ap₂ ◌++◌ (times_found p (event_at book p).times (good_event book p l.0).each) e
          go false e = e

    dates_found : (ps : List ℕ) → EachListed book ps → (d n : ℕ) → date_at z from ≤ d → d + n ≤ suc (date_at z to)
        → map (kept_as book) (kept_dates book ps o from to d n) ≡ on_dates z from to (map (event_at book) ps) d n
    unfolding kept_dates on_dates
    dates_found ps l d zero a b = refl
    dates_found ps l d (suc n) a b =
        map-append (kept_as book) (kept_date book from to d (midnight_by o d) ps) (kept_dates book ps o from to (suc d) n)
        ∙ ap₂ ◌++◌ (date_found d a (omega arith) ps l) (dates_found ps l (suc d) n (omega arith) (omega arith))

-- an offset says that the span is not reversed and no transition is near
steady_span : (z : Zone) (from to o : ℕ) → steady_in z from to ≡ Some o → (from ≤ to) × (steady_of z from to ≡ Some o)
steady_span z from to o e = go (leb from to) refl e
  where
    go : (q : Bool) → leb from to ≡ q → cond q (steady_of z from to) None ≡ Some o → (from ≤ to) × (steady_of z from to ≡ Some o)
    go true h i = (leb-true from to h, i)
    go false h i = let wrong : ◌≡◌ {A = ℕ} 0 1 = cc in absurd (omega arith)

kept_found : (book : List ℕ) (first : ℕ) (ats os events : List ℕ) → Valid first ats os → ListedEvents book events → (from to o : ℕ)
    → steady_in (zone_of first ats os) from to ≡ Some o
    → map (kept_as book) (kept_by book events from to (Some o)) ≡ found (zone_of first ats os) (map (event_at book) events) from to
unfolding found
kept_found book first ats os events v l from to o e =
    let z = zone_of first ats os in
    let span = steady_span z from to o e in
    let a = steady_date first ats os v from to o span.0 span.1 from (omega arith) span.0 in
    let b = steady_date first ats os v from to o span.0 span.1 to span.0 (omega arith) in
    let f = dates_forward o from to span.0 in
    ap₂ (λ (c d : ℕ). map (kept_as book) (kept_dates book events o from to c (suc (d - c)))) (sym a) (sym b)
    ∙ dates_found book z from to o (λ d x u g h i. steady_boundary first ats os v from to o span.0 span.1 d x (published u.uncertainty) g i (in_date d x (date_at z to) (omega arith) i)) events
    (each_listed book events l) (date_at z from) (suc (date_at z to - date_at z from)) (omega arith) (last (date_at z from) (date_at z to) (omega (arith, a, b, f)))
  where
    last : (c d : ℕ) → c ≤ d → c + suc (d - c) ≤ suc d
    last c d h = omega arith

-- ---- an event stands at each place that is kept

each_also : (book : List ℕ) (ks ls : List Kept) → EachListed book (places ks) → EachListed book (places ls) → EachListed book (places (ks ++ ls))
each_also book [] ls p q = q
each_also book (k ∷ ks) ls p q = (p.0, each_also book ks ls p.1 q)

each_time : (book : List ℕ) (from to m p : ℕ) (xs : List ℕ) → ListedEvent book p → EachListed book (places (kept_times from to m p xs))
unfolding kept_times
each_time book from to m p [] l = tt
each_time book from to m p (x ∷ xs) l = go (leb from (m + x) && ltb (m + x) to) (each_time book from to m p xs l)
  where
    go : (q : Bool) → EachListed book (places (kept_times from to m p xs))
        → EachListed book (places (cond q (record { at = m + x; place = p } ∷ kept_times from to m p xs) (kept_times from to m p xs)))
    go true h = (l, h)
    go false h = h

each_date : (book : List ℕ) (from to d m : ℕ) (ps : List ℕ) → EachListed book ps → EachListed book (places (kept_date book from to d m ps))
unfolding kept_date
each_date book from to d m [] l = tt
each_date book from to d m (p ∷ ps) l = go (leb (day_of (event_at book p).first) d && leb d (day_of (event_at book p).last)) (each_date book from to d m ps l.1)
  where
    now : List Kept
    now = kept_times from to m p (event_at book p).times

    go : (q : Bool) → EachListed book (places (kept_date book from to d m ps))
        → EachListed book (places (cond q (now ++ kept_date book from to d m ps) (kept_date book from to d m ps)))
    go true h = each_also book now (kept_date book from to d m ps) (each_time book from to m p (event_at book p).times l.0) h
    go false h = h

each_dates : (book ps : List ℕ) (o from to d n : ℕ) → EachListed book ps → EachListed book (places (kept_dates book ps o from to d n))
unfolding kept_dates
each_dates book ps o from to d zero l = tt
each_dates book ps o from to d (suc n) l =
    each_also book (kept_date book from to d (midnight_by o d) ps) (kept_dates book ps o from to (suc d) n) (each_date book from to d (midnight_by o d) ps l)
    (each_dates book ps o from to (suc d) n l)

there : (book ps rest : List ℕ) → EachListed book ps → (i : ℕ) → i < length ps → ListedEvent book (get_or (ps ++ rest) i 0)
there book [] rest l i h = absurd (not-suc-le-zero h)
there book (p ∷ ps) rest l zero h = l.0
there book (p ∷ ps) rest l (suc i) h = there book ps rest l.1 i (le_of_suc-le-suc h)

-- ---- read back, they are the events found

shifted : (o : ℕ → Occurrence) (i n : ℕ) → listed (λ (j : ℕ). o (suc j)) i n ≡ listed o (suc i) n
shifted o i zero = refl
shifted o i (suc n) = ap (◌∷◌ (o (suc i))) (shifted o (suc i) n)

read_back : (book : List ℕ) (ks : List Kept) (a b : List ℕ) → listed (kept_of book (instants ks ++ a) (places ks ++ b)) 0 (length ks) ≡ map (kept_as book) ks
read_back book [] a b = refl
read_back book (k ∷ ks) a b =
    ap (◌∷◌ (kept_as book k)) (sym (shifted (kept_of book (instants (k ∷ ks) ++ a) (places (k ∷ ks) ++ b)) 0 (length ks)) ∙ read_back book ks a b)

front : (f : Kept → ℕ) (ks : List Kept) (a : List ℕ) → length ks ≤ length a → sets a 0 (map f ks) ≡ map f ks ++ drop (length ks) a
front f ks a h =
    let e : 0 + length (map f ks) ≡ length ks = omega (arith, length-map ks f) in
    sets-eq (map f ks) a 0 (omega arith) ∙ ap (λ (n : ℕ). map f ks ++ drop n a) e

-- all were counted: as many as there are; where they have room the arrays hold them
pub record Holds (book a b a' b' : List ℕ) (n : ℕ) (os : List Occurrence) : Type 0 where
  pub count : n ≡ length os
  pub same : n ≤ length a → n ≤ length b → listed (kept_of book a' b') 0 n ≡ os
  pub there : n ≤ length b → (i : ℕ) → i < n → ListedEvent book (get_or b' i 0)

pub collects_all : (book : List ℕ) (first : ℕ) (ats os events : List ℕ) → Valid first ats os → ListedEvents book events
    → (from to : ℕ) {a b a' b' : List ℕ} {r : (Option ℕ)} {n : ℕ}
    → Collects (steady_in (zone_of first ats os) from to) book events from to a b r a' b' → r ≡ Some n
    → Holds book a b a' b' n (found (zone_of first ats os) (map (event_at book) events) from to)
collects_all book first ats os events v l from to {a} {b} {a'} {b'} {r} {n} c all = go (steady_in z from to) refl c
  where
    z : Zone
    z = zone_of first ats os

    go : (s : Option ℕ) → steady_in z from to ≡ s → Collects s book events from to a b r a' b'
        → Holds book a b a' b' n (found z (map (event_at book) events) from to)
    go None e k = let wrong : Some n ≡ None = sym all ∙ k.answer in let no : ◌≡◌ {A = ℕ} 0 1 = cc in absurd (omega arith)
    go (Some o) e k =
        let ks = kept_by book events from to (Some o) in
        let many : n ≡ length ks = let w = sym all ∙ k.answer in cc in
        let found-by = kept_found book first ats os events v l from to o e in
        let places-front : n ≤ length b → b' ≡ places ks ++ drop (length ks) b = λ h. k.places_kept ∙ front (λ (j : Kept). j.place) ks b (omega arith) in
        record {
          count = many ∙ sym (length-map ks (kept_as book)) ∙ ap length found-by;
          same = λ g h.
              ap₂ (λ (x y : List ℕ). listed (kept_of book x y) 0 n) (k.instants_kept ∙ front (λ (j : Kept). j.at) ks a (omega arith)) (places-front h)
              ∙ ap (listed (kept_of book (instants ks ++ drop (length ks) a) (places ks ++ drop (length ks) b)) 0) many
              ∙ read_back book ks (drop (length ks) a) (drop (length ks) b)
              ∙ found-by;
          there = λ h i j.
              subst (λ (y : List ℕ). ListedEvent book (get_or y i 0)) (sym (places-front h))
              (there book (places ks) (drop (length ks) b) (each_dates book events o from to (day_by o from) (suc (day_by o to - day_by o from)) (each_listed book events l)) i
              (omega (arith, length-map ks (λ (j : Kept). j.place))));
        }
