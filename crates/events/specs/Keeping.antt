-- Where the clock is steady the events of a span are found once and kept: each one's instant, and where its record stands in the book.
-- Assumes nothing.
use Rattle.std.specs.Prelude.{None, Option, Some}
use Rattle.std.specs.Prelude.{ℕ, zero, suc, ◌+◌, ◌-◌, ◌≤◌, ◌<◌, ◌≡◌, cond, ◌&&◌, List, [], ◌∷◌, ◌++◌, map, leb, ltb, length, get_or}
use Rattle.std.proofs.lemmas.List.Edits.{sets}
use Rattle.zone.specs.Zone.{Zone}
use Rattle.zone.specs.Steady.{steady_of, day_by, midnight_by}
use Rattle.records.specs.Records.{event_at}
use Rattle.venue.specs.Opening.{day_of}
use Rattle.venue.specs.Reading.{published}
use Rattle.events.specs.declared.Occurrence.{Occurrence}
use Rattle.std.specs.Prelude.{Option}
use Rattle.std.specs.Prelude.{None, Some}
use Rattle.events.specs.Seeking.{sought, begin}

pub record Kept : Type 0 where
  pub at : ℕ
  pub place : ℕ

abbrev pub instants : List Kept → List ℕ
instants ks = map (λ (k : Kept). k.at) ks

abbrev pub places : List Kept → List ℕ
places ks = map (λ (k : Kept). k.place) ks

-- of the times of the event at a place, on a date that begins at the instant `midnight`
unfoldable pub kept_times : ℕ → ℕ → ℕ → ℕ → List ℕ → List Kept
kept_times from to midnight p [] = []
kept_times from to midnight p (x ∷ xs) =
    let rest = kept_times from to midnight p xs in
    cond (leb from (midnight + x) && ltb (midnight + x) to) (record { at = midnight + x; place = p } ∷ rest) rest

-- of the events that have the date among their days
unfoldable pub kept_date : List ℕ → ℕ → ℕ → ℕ → ℕ → List ℕ → List Kept
kept_date book from to d midnight [] = []
kept_date book from to d midnight (p ∷ ps) =
    let rest = kept_date book from to d midnight ps in
    cond (leb (day_of (event_at book p).first) d && leb d (day_of (event_at book p).last))
    (kept_times from to midnight p (event_at book p).times ++ rest) rest

-- of n dates from d on, by an offset
unfoldable pub kept_dates : List ℕ → List ℕ → ℕ → ℕ → ℕ → ℕ → ℕ → List Kept
kept_dates book events o from to d zero = []
kept_dates book events o from to d (suc n) = kept_date book from to d (midnight_by o d) events ++ kept_dates book events o from to (suc d) n

-- the offset of a span that is not reversed, if no transition is near
abbrev pub steady_in : Zone → ℕ → ℕ → Option ℕ
steady_in z from to = cond (leb from to) (steady_of z from to) None

-- by that offset, from the date of the span's start to that of its end; none without it
abbrev pub kept_by : List ℕ → List ℕ → ℕ → ℕ → Option ℕ → List Kept
kept_by book events from to None = []
kept_by book events from to (Some o) = kept_dates book events o from to (day_by o from) (suc (day_by o to - day_by o from))

-- how many there are; nothing is said without an offset
abbrev pub counted : List Kept → Option ℕ → Option ℕ
counted ks None = None
counted ks (Some o) = Some (length ks)

-- kept behind n others in two arrays, as long as there is room, and counted
pub record Keeps (when which : List ℕ) (n : ℕ) (ks : List Kept) (when' which' : List ℕ) (r : ℕ) : Type 0 where
  pub count : r ≡ n + length ks
  pub instants_kept : when' ≡ sets when n (instants ks)
  pub places_kept : which' ≡ sets which n (places ks)

-- the events of a span counted, and kept in two arrays from the first on
pub record Collects (s : Option ℕ) (book events : List ℕ) (from to : ℕ) (when which : List ℕ) (r : Option ℕ) (when' which' : List ℕ) : Type 0 where
  pub answer : r ≡ counted (kept_by book events from to s) s
  pub instants_kept : when' ≡ sets when 0 (instants (kept_by book events from to s))
  pub places_kept : which' ≡ sets which 0 (places (kept_by book events from to s))

-- ---- read back

-- the event at a place, at an instant
abbrev pub kept_at : List ℕ → ℕ → ℕ → Occurrence
kept_at book t p =
    record {
      code = (event_at book p).code;
      boundary = record { at = record { 0 = t }; uncertainty = published (event_at book p).uncertainty };
      evidence = (event_at book p).evidence;
    }

abbrev pub kept_as : List ℕ → Kept → Occurrence
kept_as book k = kept_at book k.at k.place

-- n of numbered events, from the number i on
abbrev pub listed : (ℕ → Occurrence) → ℕ → ℕ → List Occurrence
listed o i zero = []
listed o i (suc n) = o i ∷ listed o (suc i) n

-- the event of a number below n; the number n says that there is none
abbrev pub best_at : (ℕ → Occurrence) → ℕ → ℕ → Option (Occurrence × ℕ)
best_at o n r = cond (ltb r n) (Some (o r, r)) None

-- of n events at these instants, r is the first by instant and number from the number `index` at the instant `at` on
pub record Next (when : List ℕ) (n at index r : ℕ) : Type 0 where
  pub within : r ≤ n
  pub best : (o : ℕ → Occurrence) → ((i : ℕ) → i < n → (o i).boundary.at.0 ≡ get_or when i 0) → (sought (begin at index) (listed o 0 n)).best ≡ best_at o n r

-- those that two arrays keep
abbrev pub kept_of : List ℕ → List ℕ → List ℕ → ℕ → Occurrence
kept_of book when which i = kept_at book (get_or when i 0) (get_or which i 0)
