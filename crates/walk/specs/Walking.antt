-- The walk, one span after the other: a date's boundaries, where the walk stands, and what is left of it. Assumes nothing.
use Rattle.std.specs.Prelude.{Option, Some}
use Rattle.std.specs.Prelude.{ℕ, suc, ◌+◌, ◌≤◌, ◌<◌, min, max, ◌≡◌, Bool, true, false, cond, List, [], ◌∷◌, ◌++◌, map, ◌↔◌, ltb, length, get_or, take, drop}
use Rattle.std.specs.Prelude.{None}
use Rattle.wire.specs.Fields.{wrote}
use Rattle.zone.specs.Zone.{Zone, resolve, date_at}
use Rattle.zone.specs.Units.{day_ns, most_offset_ns, nearest_reading, reading_at}
use Rattle.zone.specs.Answers.{uncertain}
use Rattle.zone.specs.declared.Uncertainty.{Uncertainty}
use Rattle.zone.specs.declared.Uncertainty.TheVariants.{Exact, PublishedGranularity, PublishedBound, ProcessStart, AmbiguousLocalTime, NonexistentLocalTime}
use Rattle.records.specs.Records.{Point, Rule, rule_at}
use Rattle.venue.specs.Reading.{published, ListedRule}
use Rattle.venue.specs.Reading as Reading
use Rattle.spans.specs.Spans.{Span, clip, reach}
use Rattle.spans.specs.Timeline.{Edge, Venue, midnight, raised, cut, walk}
use Rattle.day.specs.Governing.{governing_place}
use Rattle.day.specs.Days.{Held, venue_by}
use Rattle.day.specs.Keeping.{kept_after}
use Rattle.walk.specs.declared.Walk.{Walk}
use Rattle.walk.specs.declared.Piece.{Piece}

-- ---- a date's boundaries

-- from s on: each next point's, then the next midnight's, each raised to the one before
unfoldable pub edges_from : {A : Type 0} → Venue A → Edge → List Point → List Edge
edges_from v s [] = s ∷ raised v s.at (suc s.date) 0 ∷ []
edges_from v s (q ∷ qs) = s ∷ edges_from v (raised v s.at s.date q.time) qs

abbrev pub edges : {A : Type 0} → Venue A → ℕ → List Point → List Edge
edges v d [] = []
edges v d (p ∷ ps) = edges_from v (raised v 0 d p.time) ps

-- a rule's boundaries do not ask which rule governs
abbrev pub rule_edges : Zone → Rule → ℕ → List Edge
rule_edges z r d = edges (venue_by z (λ x. None)) d r.points

abbrev pub edge_instants : Zone → Rule → ℕ → List ℕ
edge_instants z r d = map (λ (e : Edge). e.at) (rule_edges z r d)

-- a time of a date is not in doubt: its instant is as precise as is published
abbrev pub ClearTime : Zone → ℕ → ℕ → Type 0
ClearTime z d x = (u : Uncertainty) → uncertain (resolve z (nearest_reading (reading_at d x))) u ≡ u

abbrev pub is_exact : Uncertainty → Bool
is_exact Exact = true
is_exact (PublishedGranularity n) = false
is_exact (PublishedBound n t) = false
is_exact (ProcessStart t) = false
is_exact (AmbiguousLocalTime d) = false
is_exact (NonexistentLocalTime d) = false

-- none of a date's boundaries is
pub record ClearDate (z : Zone) (r : Rule) (d : ℕ) : Type 0 where
  pub points : (i : ℕ) → i < length r.points → ClearTime z d (get_or r.points i Reading.midnight).time
  pub midnight : ClearTime z (suc d) 0

-- ---- what is left

-- the spans of a date from a boundary on
abbrev pub spans_from : Zone → Rule → List Edge → List Point → List (Span Held)
spans_from z r [] ps = []
spans_from z r (e ∷ es) [] = []
spans_from z r (e ∷ es) (p ∷ ps) = cut (venue_by z (λ x. None)) r e p.phase ps

-- of a date, from its k-th span on
abbrev pub on_date : List ℕ → Zone → ℕ → ℕ → Option ℕ → List (Span Held)
on_date s z d k None = []
on_date s z d k (Some p) = let r = rule_at s p in spans_from z r (drop k (rule_edges z r d)) (drop k r.points)

-- where a turn leads that shows no more spans: to the end of its last one, or where it had none to the next midnight
abbrev pub onward : {A : Type 0} → Venue A → ℕ → ℕ → ℕ → ℕ → ℕ
onward v hi began cursor date = cond (ltb began cursor) cursor (min hi (midnight v (suc date)))

-- of the date's spans, and of the turns after it
abbrev pub rest_with : {A : Type 0} → Venue A → ℕ → Walk → List (Span A) → List (Span A)
rest_with v hi w here =
    here ++ (let next = reach (onward v hi w.began.0 w.cursor.0 w.date.0) here in cond (ltb w.began.0 next) (walk v hi w.turns next) [])

unfoldable pub rest : List ℕ → Zone → Venue Held → ℕ → Walk → List (Span Held)
rest s z v hi w = rest_with v hi w (clip w.cursor.0 hi (on_date s z w.date.0 w.next w.governed))

-- ---- where the walk stands

-- the first boundaries of an array are those of a date, and it is clear exactly where none is in doubt
abbrev pub EdgesKept : List ℕ → Zone → ℕ → ℕ → Bool → Option ℕ → List ℕ → Type 0
EdgesKept s z d k clear None a = clear ≡ true
EdgesKept s z d k clear (Some p) a =
    ListedRule s p × (k ≤ length (rule_at s p).points) × (take (length (edge_instants z (rule_at s p) d)) a ≡ edge_instants z (rule_at s p) d)
    × ((clear ≡ true) ↔ ClearDate z (rule_at s p) d)

pub record WalkStands (s : List ℕ) (z : Zone) (w : Walk) (a : List ℕ) : Type 0 where
  pub kept : EdgesKept s z w.date.0 w.next w.clear w.governed a
  pub forward : w.began.0 ≤ w.cursor.0

-- ---- a piece: a span of a date, and what of it shows

abbrev pub rule_of : List ℕ → Piece → Rule
rule_of s q = rule_at s q.rule

abbrev pub point_of : List ℕ → Piece → ℕ → Point
point_of s q i = get_or (rule_of s q).points i Reading.midnight

abbrev pub start_edge : List ℕ → Piece → Edge
start_edge s q = record { date = q.date.0; time = (point_of s q q.point).time; at = q.start.0 }

abbrev pub end_edge : List ℕ → Piece → Edge
end_edge s q =
    cond (ltb (q.point + 1) (length (rule_of s q).points))
    (record { date = q.date.0; time = (point_of s q (q.point + 1)).time; at = q.end.0 })
    (record { date = suc q.date.0; time = 0; at = q.end.0 })

-- what its span holds
abbrev pub held_in : List ℕ → Zone → Piece → Held
held_in s z q = (venue_by z (λ x. None)).body (rule_of s q) (start_edge s q) (point_of s q q.point).phase (end_edge s q)

-- between boundaries that are not in doubt
abbrev pub clear_in : List ℕ → Piece → Held
clear_in s q =
    record {
      start = record { at = q.start; uncertainty = published (rule_of s q).uncertainty };
      end = record { at = q.end; uncertainty = published (rule_of s q).uncertainty };
      phase = (point_of s q q.point).phase;
      rule = rule_of s q;
    }

-- where the walk stands behind it
abbrev pub after_piece : Piece → Walk
after_piece q =
    record {
      turns = q.turns;
      began = q.began;
      cursor = q.to;
      date = q.date;
      governed = Some q.rule;
      next = q.point + 1;
      clear = q.clear;
    }

abbrev pub shown_part : List ℕ → Zone → Piece → Span Held
shown_part s z q = record { from = q.from.0; to = q.to.0; body = held_in s z q }

-- a date's spans are within 16 hours of it
abbrev pub span_ns : ℕ
span_ns = day_ns + most_offset_ns + most_offset_ns

-- a rule and its point stand where a piece says, its span is not long, and where it is clear it holds what the rule says
pub record PieceFits (s : List ℕ) (z : Zone) (q : Piece) : Type 0 where
  pub listed : ListedRule s q.rule
  pub point : q.point < length (rule_of s q).points
  pub shows : q.from.0 < q.to.0
  pub short : q.end.0 ≤ q.start.0 + span_ns
  pub clear : q.clear ≡ true → held_in s z q ≡ clear_in s q

-- of the spans between n + 1 boundaries, r is the first from the k-th on that shows between the cursor and hi; n where none does
pub record Showing (a : List ℕ) (k n cursor hi r : ℕ) : Type 0 where
  pub from : k ≤ r
  pub most : r ≤ n
  pub hidden : (j : ℕ) → k ≤ j → j < r → min hi (get_or a (j + 1) 0) ≤ max cursor (get_or a j 0)
  pub shown : r < n → max cursor (get_or a r 0) < min hi (get_or a (r + 1) 0)

-- ---- a turn begins

pub record Begun (s : List ℕ) (z : Zone) (v : Venue Held) (turns cursor : ℕ) (w : Walk) (a : List ℕ) : Type 0 where
  pub stands : WalkStands s z w a
  pub all : (hi : ℕ) → rest s z v hi w ≡ walk v hi (suc turns) cursor

-- the array of boundaries after it: as it was where no rule governs the date
abbrev pub edges_after : List ℕ → Zone → ℕ → Option ℕ → List ℕ → List ℕ
edges_after s z d None a = a
edges_after s z d (Some p) a = wrote a 0 (edge_instants z (rule_at s p) d)

-- what it sets, of the walk and of both lent arrays
pub record BegunAs (s : List ℕ) (z : Zone) (rules : List ℕ) (turns cursor : ℕ) (old kept : List ℕ) (w : Walk) (a kept' : List ℕ) : Type 0 where
  pub left : w.turns ≡ turns
  pub began : w.began.0 ≡ cursor
  pub at : w.cursor.0 ≡ cursor
  pub date : w.date.0 ≡ date_at z cursor
  pub place : w.governed ≡ governing_place s rules w.date.0
  pub next : w.next ≡ 0
  pub edges : a ≡ edges_after s z w.date.0 w.governed old
  pub keeps : kept' ≡ kept_after s rules w.date.0 kept

-- ---- a step of the walk: a piece comes first, and the walk stands behind it, with as many turns to go

pub record Comes (s : List ℕ) (z : Zone) (v : Venue Held) (hi : ℕ) (w : Walk) (q : Piece) (a : List ℕ) : Type 0 where
  pub first : rest s z v hi w ≡ shown_part s z q ∷ rest s z v hi (after_piece q)
  pub fits : PieceFits s z q
  pub stands : WalkStands s z (after_piece q) a
  pub turns : q.turns ≡ w.turns
