-- The events of a span: document 01, phase rule 6. Assumes nothing.
use Rattle.std.specs.Prelude.{ℕ, zero, suc, ◌-◌, ◌*◌, Bool, cond, ◌&&◌, List, [], ◌∷◌, ◌++◌, leb, ltb}
use Rattle.zone.specs.Zone.{Zone, date_at}
use Rattle.zone.specs.Answers.{boundary_at}
use Rattle.records.specs.Records.{Event}
use Rattle.venue.specs.Opening.{day_of}
use Rattle.venue.specs.Reading.{published}
use Rattle.records.specs.Limits.{base}
use Rattle.events.specs.declared.Occurrence.{Occurrence}

-- an event at a time of a date
abbrev pub occurrence : Zone → ℕ → Event → ℕ → Occurrence
occurrence z d e x = record { code = e.code; boundary = boundary_at z d x (published e.uncertainty); evidence = e.evidence }

-- in the span from `from` to before `to`
abbrev pub happens : ℕ → ℕ → Occurrence → Bool
happens from to o = leb from o.boundary.at.0 && ltb o.boundary.at.0 to

-- of the listed times of an event, on a date
unfoldable pub on_times : Zone → ℕ → ℕ → ℕ → Event → List ℕ → List Occurrence
on_times z from to d e [] = []
on_times z from to d e (x ∷ xs) =
    let rest = on_times z from to d e xs in
    cond (happens from to (occurrence z d e x)) (occurrence z d e x ∷ rest) rest

-- of the listed events that have the date among their days
unfoldable pub on_date : Zone → ℕ → ℕ → ℕ → List Event → List Occurrence
on_date z from to d [] = []
on_date z from to d (e ∷ es) =
    let rest = on_date z from to d es in
    cond (leb (day_of e.first) d && leb d (day_of e.last)) (on_times z from to d e e.times ++ rest) rest

-- of n dates from d on
unfoldable pub on_dates : Zone → ℕ → ℕ → List Event → ℕ → ℕ → List Occurrence
on_dates z from to es d zero = []
on_dates z from to es d (suc n) = on_date z from to d es ++ on_dates z from to es (suc d) n

-- from the date of the span's start to that of its end; only the start's, if the end's is earlier
unfoldable pub found : Zone → List Event → ℕ → ℕ → List Occurrence
found z es from to = on_dates z from to es (date_at z from) (suc (date_at z to - date_at z from))

-- at most so many on a date, and in a span that meets at most five dates
abbrev pub most_on_date : ℕ
most_on_date = base.events * base.times

abbrev pub most_in_span : ℕ
most_in_span = 5 * most_on_date

-- in front of those that are not earlier
unfoldable pub insert : Occurrence → List Occurrence → List Occurrence
insert o [] = o ∷ []
insert o (p ∷ ps) = cond (leb o.boundary.at.0 p.boundary.at.0) (o ∷ p ∷ ps) (p ∷ insert o ps)

-- by instant; those of one instant stay as they were
unfoldable pub by_instant : List Occurrence → List Occurrence
by_instant [] = []
by_instant (o ∷ os) = insert o (by_instant os)

abbrev pub events_in : Zone → List Event → ℕ → ℕ → List Occurrence
events_in z es from to = by_instant (found z es from to)
