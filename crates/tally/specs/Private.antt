-- What the private functions answer: a window's stretches as they are walked, before they are joined. Assumes nothing.
use Rattle.std.specs.Prelude.{ℕ, min, max, ◌≡◌, List, [], ◌∷◌, ◌++◌, map, length}
use Rattle.spans.specs.Spans.{Mark, phase, unknown, Span}
use Rattle.spans.specs.Timeline.{Venue, turns, walk}
use Rattle.day.specs.Days.{Values, Held, venue_of}
use Rattle.tally_rows.specs.OpenRows.{stretch_of, Standing}
use Rattle.tally_rows.specs.declared.OpenRow.{OpenRow}

abbrev pub held_mark : Span Held → Span Mark
held_mark s = stretch_of s.from s.to (phase s.body.phase s.body.rule.evidence)

abbrev pub raw_blank : ℕ → ℕ → List (Span Mark)
raw_blank start end = stretch_of start end unknown ∷ []

-- unknown before coverage, the walk, unknown after; an unknown stretch may be empty
abbrev pub raw_of : Values → ℕ → ℕ → List (Span Mark)
raw_of v start end =
    stretch_of start (min end v.coverage.start) unknown
    ∷ (map held_mark (walk (venue_of v) (min end v.coverage.end) turns (max start v.coverage.start))
    ++ (stretch_of (max start v.coverage.end) end unknown ∷ []))

-- the stretches of a walk
abbrev pub walked : Venue Held → ℕ → ℕ → List (Span Mark)
walked v lo hi = map held_mark (walk v hi turns lo)

-- several stretches come next, and are counted
pub record AllComing (ss : List (Span Mark)) (now : List ℕ) (p : OpenRow) (start end : ℕ) (row whole : List ℕ) : Type 0 where
  pub all : List (Span Mark)
  pub last : List (Span Mark)
  pub room : List ℕ
  pub stands : Standing all (ss ++ last) start end room now p row whole

pub record AllCounted (ss : List (Span Mark)) (now : List ℕ) (p : OpenRow) (start end : ℕ) (row whole now' : List ℕ) (p' : OpenRow)
    (row' whole' : List ℕ) : Type 0 where
  pub on : (all last : List (Span Mark)) (room : List ℕ) → Standing all (ss ++ last) start end room now p row whole
      → Standing all last start end room now' p' row' whole'
  pub kept : length now' ≡ length now
