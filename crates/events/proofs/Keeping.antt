-- Events kept as the code keeps them: what is left to keep. Assumes nothing.
use Prim.Native.Nat.{ℕ, suc, ◌+◌, ◌-◌, ◌*◌, ◌≤◌, ◌<◌}
use mathlib.Core.Path.{◌≡◌, refl, sym, ap, ap₂, subst, ◌∙◌}
use mathlib.Core.Bool.{Bool, true, false, ◌&&◌}
use mathlib.Core.List.{List, [], ◌∷◌, ◌++◌, map, map-append}
use native.Mathlib.Omega.{arith}
use lib.Dec.{leb, ltb}
use lib.ListN.{length, get_or, set, drop, drop_of_length-le, length-append, length-map}
use lib.Seq.{drop-cons, sets, length-sets}
use Rattle.records.specs.Records.{event_at}
use Rattle.venue.specs.Opening.{day_of}
use Rattle.zone.specs.Units.{last_instant}
use Rattle.zone.specs.Steady.{day_by, midnight_by, OnWall, DayOnWall}
use Rattle.events.specs.Keeping.{Kept, instants, places, kept_times, kept_date, kept_dates, Keeps}
use Rattle.events.specs.Happenings.{most_on_date}

-- ---- one after the other

sets_append : (l : List ℕ) (i : ℕ) (vs ws : List ℕ) → sets l i (vs ++ ws) ≡ sets (sets l i vs) (i + length vs) ws
sets_append l i [] ws = let k : i ≡ i + 0 = omega arith in ap (λ (j : ℕ). sets l j ws) k
sets_append l i (v ∷ vs) ws =
    let k : suc i + length vs ≡ i + suc (length vs) = omega arith in
    sets_append (set l i v) (suc i) vs ws ∙ ap (λ (j : ℕ). sets (sets (set l i v) (suc i) vs) j ws) k

also_kept : (f : Kept → ℕ) (ks ls : List Kept) (a : List ℕ) (n : ℕ) {a' a'' : List ℕ} {m : ℕ} → m ≡ n + length ks → a' ≡ sets a n (map f ks)
    → a'' ≡ sets a' m (map f ls) → a'' ≡ sets a n (map f (ks ++ ls))
also_kept f ks ls a n {a'} {a''} {m} e p q =
    let k : m ≡ n + length (map f ks) = omega (arith, length-map ks f) in
    q ∙ ap₂ (λ (l : List ℕ) (j : ℕ). sets l j (map f ls)) p k ∙ sym (sets_append a n (map f ks) (map f ls)) ∙ ap (sets a n) (sym (map-append f ks ls))

pub keeps_none : {a b : List ℕ} {n : ℕ} → Keeps a b n [] a b n
keeps_none = record { count = omega arith; instants_kept = refl; places_kept = refl }

pub keeps_also : {a b a' b' a'' b'' : List ℕ} {n m r : ℕ} {ks ls : List Kept} → Keeps a b n ks a' b' m → Keeps a' b' m ls a'' b'' r
    → Keeps a b n (ks ++ ls) a'' b'' r
keeps_also {a} {b} {n = n} {ks = ks} {ls = ls} p q =
    record {
      count = omega (arith, p.count, q.count, length-append ks ls);
      instants_kept = also_kept (λ (k : Kept). k.at) ks ls a n p.count p.instants_kept q.instants_kept;
      places_kept = also_kept (λ (k : Kept). k.place) ks ls b n p.count p.places_kept q.places_kept;
    }

-- by other names
pub keeps_by : {a b a' b' a'' b'' : List ℕ} {n m r : ℕ} {ks : List Kept} → Keeps a b n ks a' b' m → a'' ≡ a' → b'' ≡ b' → r ≡ m → Keeps a b n ks a'' b'' r
keeps_by p e f g = record { count = g ∙ p.count; instants_kept = e ∙ p.instants_kept; places_kept = f ∙ p.places_kept }

-- the arrays stay as long as they were
pub keeps_long : {a b a' b' : List ℕ} {n r : ℕ} {ks : List Kept} → Keeps a b n ks a' b' r → (length a' ≡ length a) × (length b' ≡ length b)
keeps_long {a} {b} {n = n} {ks = ks} p = (ap length p.instants_kept ∙ length-sets a n (instants ks), ap length p.places_kept ∙ length-sets b n (places ks))

-- ---- a list whose elements have events, passed one after the other: i of them are passed, each with at most so many events

pub record Keeping (f : List ℕ → List Kept) (whole : List ℕ) (most : ℕ) (a b : List ℕ) (n : ℕ) (a' b' : List ℕ) (m i : ℕ) : Type 0 where
  pub inside : i ≤ length whole
  pub few : m ≤ n + most * i
  pub long : (length a' ≡ length a) × (length b' ≡ length b)
  pub ahead : (c d : List ℕ) (r : ℕ) → Keeps a' b' m (f (drop i whole)) c d r → Keeps a b n (f whole) c d r

module _ {f : List ℕ → List Kept} {whole : List ℕ} {most : ℕ} where
  pub keep_one : {a b a' b' a'' b'' : List ℕ} {n m r i x : ℕ} {new : List Kept} → Keeping f whole most a b n a' b' m i → i < length whole
      → x ≡ get_or whole i 0
      → f (x ∷ drop (i + 1) whole) ≡ new ++ f (drop (i + 1) whole) → Keeps a' b' m new a'' b'' r → r ≤ m + most → Keeping f whole most a b n a'' b'' r (i + 1)
  keep_one {a} {b} {n = n} {i = i} {x = x} {new = new} p h e split k less =
      let j : suc i ≡ i + 1 = omega arith in
      let here : f (drop i whole) ≡ new ++ f (drop (i + 1) whole) = ap f (drop-cons whole i 0 h ∙ ap₂ (λ (y j : ℕ). y ∷ drop j whole) (sym e) j) ∙ split in
      let l = keeps_long k in
      record {
        inside = omega arith;
        few = omega (arith, p.few);
        long = (l.0 ∙ p.long.0, l.1 ∙ p.long.1);
        ahead = λ c d q more. p.ahead c d q (rw here (keeps_also k more));
      }

  pub keep_end : {a b a' b' : List ℕ} {n m i : ℕ} → f [] ≡ [] → Keeping f whole most a b n a' b' m i → length whole ≤ i → Keeps a b n (f whole) a' b' m
  keep_end {a' = a'} {b' = b'} {m = m} {i = i} none p h = p.ahead a' b' m (rw (drop_of_length-le whole h, none) keeps_none)

-- ---- the times of an event

module _ (from to midnight p : ℕ) where
  abbrev happens : ℕ → Bool
  happens x = leb from (midnight + x) && ltb (midnight + x) to

  pub time_in : (x : ℕ) (xs : List ℕ) → happens x ≡ true
      → kept_times from to midnight p (x ∷ xs) ≡ (record { at = midnight + x; place = p } ∷ []) ++ kept_times from to midnight p xs
  unfolding kept_times
  time_in x xs h = simp h

  pub time_out : (x : ℕ) (xs : List ℕ) → happens x ≡ false → kept_times from to midnight p (x ∷ xs) ≡ [] ++ kept_times from to midnight p xs
  unfolding kept_times
  time_out x xs h = simp h

  pub no_times : kept_times from to midnight p [] ≡ []
  unfolding kept_times
  no_times = refl

-- ---- the events of a date

module _ (book : List ℕ) (from to d midnight : ℕ) where
  abbrev has_date : ℕ → Bool
  has_date p = leb (day_of (event_at book p).first) d && leb d (day_of (event_at book p).last)

  -- the first and last date as they are read
  dated : (p : ℕ) {a b : ℕ} {y : Bool} → a ≡ day_of (event_at book p).first → b ≡ day_of (event_at book p).last → leb a d && leb d b ≡ y → has_date p ≡ y
  dated p i j h = ap₂ (λ (a b : ℕ). leb a d && leb d b) (sym i) (sym j) ∙ h

  module _ (p : ℕ) (ps : List ℕ) {a b : ℕ} (first_read : a ≡ day_of (event_at book p).first) (last_read : b ≡ day_of (event_at book p).last) where
    pub event_in : leb a d && leb d b ≡ true
        → kept_date book from to d midnight (p ∷ ps) ≡ kept_times from to midnight p (event_at book p).times ++ kept_date book from to d midnight ps
    unfolding kept_date
    event_in y = let h = dated p first_read last_read y in simp h

    pub event_out : leb a d && leb d b ≡ false → kept_date book from to d midnight (p ∷ ps) ≡ [] ++ kept_date book from to d midnight ps
    unfolding kept_date
    event_out y = let h = dated p first_read last_read y in simp h

  pub no_events : kept_date book from to d midnight [] ≡ []
  unfolding kept_date
  no_events = refl

-- ---- the dates of a span, from the date a to the date b: all before `date` are passed

-- a date of instants on the wall
pub date_in : (o from to d : ℕ) → OnWall o from → OnWall o to → day_by o from ≤ d → d ≤ day_by o to → DayOnWall o d × (midnight_by o d ≤ last_instant)
date_in o from to d g h i j = ((g.0, omega arith, omega arith), omega arith)

pub dates_forward : (o from to : ℕ) → from ≤ to → day_by o from ≤ day_by o to
dates_forward o from to h = omega arith

module _ (book events : List ℕ) (o from to a b : ℕ) where
  pub record Dating (x y x' y' : List ℕ) (n date : ℕ) : Type 0 where
    pub low : a ≤ date
    pub high : date ≤ suc b
    pub few : n ≤ most_on_date * (date - a)
    pub long : (length x' ≡ length x) × (length y' ≡ length y)
    pub ahead : (c d : List ℕ) (r : ℕ) → Keeps x' y' n (kept_dates book events o from to date (suc b - date)) c d r
        → Keeps x y 0 (kept_dates book events o from to a (suc b - a)) c d r

  one_date : (date : ℕ) → date ≤ b
      → kept_dates book events o from to date (suc b - date) ≡ kept_date book from to date (midnight_by o date) events ++ kept_dates book events o from to (date + 1) (suc b - (date + 1))
  unfolding kept_dates
  one_date date h =
      let k : suc b - date ≡ suc (suc b - (date + 1)) = omega arith in
      let j : suc date ≡ date + 1 = omega arith in
      ap (kept_dates book events o from to date) k
      ∙ ap (λ (m : ℕ). kept_date book from to date (midnight_by o date) events ++ kept_dates book events o from to m (suc b - (date + 1))) j

  pub date_one : {x y x' y' x'' y'' : List ℕ} {n r date : ℕ} (m : ℕ) → Dating x y x' y' n date → date ≤ b → m ≡ midnight_by o date
      → Keeps x' y' n (kept_date book from to date m events) x'' y'' r → r ≤ n + most_on_date → Dating x y x'' y'' r (date + 1)
  date_one {date = date} m p h e k less =
      let l = keeps_long k in
      record {
        low = omega (arith, p.low);
        high = omega arith;
        few = omega (arith, p.few, p.low);
        long = (l.0 ∙ p.long.0, l.1 ∙ p.long.1);
        ahead = λ c d q more. p.ahead c d q (rw (one_date date h) (keeps_also (rw e at k) more));
      }

  pub dates_end : {x y x' y' : List ℕ} {n date : ℕ} → Dating x y x' y' n date → b < date → a ≤ b → a ≡ day_by o from → b ≡ day_by o to
      → Keeps x y 0 (kept_dates book events o from to (day_by o from) (suc (day_by o to - day_by o from))) x' y' n
  unfolding kept_dates
  dates_end {x} {y} {x'} {y'} {n} {date} p h l e f =
      let k : suc b - date ≡ 0 = omega arith in
      let j : suc b - a ≡ suc (b - a) = omega arith in
      let whole = p.ahead x' y' n (subst (λ (m : ℕ). Keeps x' y' n (kept_dates book events o from to date m) x' y' n) (sym k) keeps_none) in
      subst (λ (ks : List Kept). Keeps x y 0 ks x' y' n) (ap (kept_dates book events o from to a) j ∙ ap₂ (λ (c d : ℕ). kept_dates book events o from to c (suc (d - c))) e f) whole
