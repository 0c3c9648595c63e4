-- Point answers and timelines of a venue (document 01, phase rules 2 to 5). Instants, dates and times of day are numbers. Assumes nothing.
use Rattle.std.specs.Prelude.{◌≡◌, Bool, cond, ◌&&◌, List, [], ◌∷◌, ◌++◌, ℕ, zero, suc, ◌-◌, min, max, leb, ltb}
use Rattle.std.specs.Prelude.{Option, None, Some}
use Rattle.records.specs.Records.{Point, Rule}
use Rattle.spans.specs.Spans.{Span, Body, keep, clip, reach, look, joined}

-- a boundary: a time of a date, converted and raised to the instant `at`
pub record Edge : Type 0 where
  pub date : ℕ
  pub time : ℕ
  pub at : ℕ

-- a venue: the date that an instant reads, the instant taken for a time of a date, the rule that governs a date,
-- and the body of a span by a rule, between two boundaries in a phase
pub record Venue (A : Type 0) : Type 0 where
  pub reads : ℕ → ℕ
  pub conv : ℕ → ℕ → ℕ
  pub governing : ℕ → Option Rule
  pub body : Rule → Edge → ℕ → Edge → A

abbrev pub midnight : {A : Type 0} → Venue A → ℕ → ℕ
midnight v d = v.conv d 0

-- the boundary at a time of a date, not earlier than the instant m
abbrev pub raised : {A : Type 0} → Venue A → ℕ → ℕ → ℕ → Edge
raised v m d x = record { date = d; time = x; at = max m (v.conv d x) }

-- the span between two boundaries in the phase p, unless it is empty
abbrev pub between : {A : Type 0} → Venue A → Rule → Edge → ℕ → Edge → List (Span A) → List (Span A)
between v r s p e rest = keep s.at e.at (v.body r s p e) rest

-- a date's spans from the boundary s in the phase p on: to each next point, and then to the next midnight
unfoldable pub cut : {A : Type 0} → Venue A → Rule → Edge → ℕ → List Point → List (Span A)
cut v r s p [] = between v r s p (raised v s.at (suc s.date) 0) []
cut v r s p (q ∷ qs) =
    let e = raised v s.at s.date q.time in
    between v r s p e (cut v r e q.phase qs)

-- the last of a date's boundaries from s on
unfoldable pub last_edge : {A : Type 0} → Venue A → Edge → List Point → Edge
last_edge v s [] = raised v s.at (suc s.date) 0
last_edge v s (q ∷ qs) = last_edge v (raised v s.at s.date q.time) qs

abbrev pub of_points : {A : Type 0} → Venue A → Rule → ℕ → List Point → List (Span A)
of_points v r d [] = []
of_points v r d (p ∷ ps) = cut v r (raised v 0 d p.time) p.phase ps

abbrev pub of_rule : {A : Type 0} → Venue A → ℕ → Option Rule → List (Span A)
of_rule v d None = []
of_rule v d (Some r) = of_points v r d r.points

-- the spans of a date
unfoldable pub spans : {A : Type 0} → Venue A → ℕ → List (Span A)
spans v d = of_rule v d (v.governing d)

pub record Part : Type 0 where
  pub start : ℕ
  pub end : ℕ

abbrev pub inside : Part → ℕ → Bool
inside c t = leb c.start t && ltb t c.end

-- the point answer: the first span holding the instant, of yesterday's, today's and tomorrow's; outside coverage none
unfoldable pub point_at : {A B : Type 0} → (A → B) → Venue A → Part → ℕ → Option B
point_at f v c t =
    let d = v.reads t in
    cond (inside c t) (look f (spans v (d - 1) ++ (spans v d ++ spans v (suc d))) t) None

-- the walk from the cursor to before hi, in at most n turns: the spans of the cursor's date from the cursor on, to the end of the
-- last of them; where there is none, to the next midnight; it stops where that is not later
unfoldable pub walk : {A : Type 0} → Venue A → ℕ → ℕ → ℕ → List (Span A)
walk v hi zero cursor = []
walk v hi (suc n) cursor =
    let d = v.reads cursor in
    let here = clip cursor hi (spans v d) in
    let next = reach (min hi (midnight v (suc d))) here in
    let rest = walk v hi n next in
    cond (ltb cursor next) (here ++ rest) []

abbrev pub turns : ℕ
turns = 3660

-- unknown before coverage, the walk over the covered part of the window, unknown after coverage
unfoldable pub unjoined : {A : Type 0} → Venue A → A → Part → Part → List (Span A)
unjoined v gap c w =
    keep w.start (min w.end c.start) gap
    (walk v (min w.end c.end) turns (max w.start c.start) ++ keep (max w.start c.end) w.end gap [])

unfoldable pub timeline : {A : Type 0} → Body A → Venue A → A → Part → Part → List (Span A)
timeline B v gap c w = joined B (unjoined v gap c w)

-- a venue without data
unfoldable pub blank : {A : Type 0} → A → Part → List (Span A)
blank gap w = keep w.start w.end gap []

-- an accepted rule's first point is at 00:00
abbrev pub Starts : List Point → Type 0
Starts [] = ⊥
Starts (p ∷ ps) = p.time ≡ 0
