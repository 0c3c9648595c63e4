-- What the private functions answer and require. Assumes nothing.
use Rattle.std.specs.Prelude.{ℕ, ◌+◌, cond, List, Option, None, Some}
use Rattle.wire.specs.Fields.{Inside}
use Rattle.zone.specs.Zone.{Zone}
use Rattle.day.specs.Days.{whole as whole_of}
use Rattle.walk.specs.Walking.{held_in}
use Rattle.walk.specs.declared.Piece.{Piece}
use Rattle.answer.specs.Amending.{Amends}
use Rattle.answer.specs.Forms.{phase_size}
use Rattle.answer.specs.declared.Phase.{Phase}
use Rattle.span_records.specs.Shown.{head_of}
use Rattle.joining.specs.Amending.{is_joinable, merged_phase}
use Rattle.joining.specs.declared.Last.{Last}
use Rattle.walk_records.specs.declared.put.Written.{Written}

-- a piece's record, with n events behind it
abbrev pub piece_head : List ℕ → Zone → Piece → ℕ → Phase
piece_head s z q n = head_of q.from.0 q.to.0 (held_in s z q) (whole_of (held_in s z q)) n

-- what the last record shows, if there is one
abbrev pub shows : Option Written → Option Last
shows None = None
shows (Some o) = Some (record { until = o.head.end; phase = o.head.phase; evidence = o.head.evidence })

-- that record, if a span from `from` on joins it
abbrev pub joined_record : Option Written → ℕ → ℕ → ℕ → Option Written
joined_record last from p e = cond (is_joinable (shows last) from p e) last None

-- where the span's events go: behind those of the record that it joins, or behind a record of its own
abbrev pub events_place : Option Written → ℕ → ℕ
events_place None place = place + phase_size
events_place (Some o) place = place

-- how many events the record that it joins has
abbrev pub events_before : Option Written → ℕ
events_before None = 0
events_before (Some o) = o.head.events

-- the record behind the span, with the span's own: the one that it joins, or one at `place`
abbrev pub told : Option Written → Phase → ℕ → Written
told None own place = record { head = own; stand = place }
told (Some o) own place = record { head = merged_phase o.head own; stand = o.stand }

-- it amends the one that stands there, or there is room for it
abbrev pub Recorded : List ℕ → Option Written → Written → Type 0
Recorded s None r = Inside r.stand phase_size s
Recorded s (Some o) r = Amends s r.stand r.head
