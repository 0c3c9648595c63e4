-- Joining: document 01, phase rule 5, over what a venue's spans show. Assumes nothing.
use Rattle.std.specs.Prelude.{◌++◌}
use Rattle.zone.specs.Answers.{widest_of}
use Rattle.spans.specs.Spans.{Mark, phase, Body}
use Rattle.span_records.specs.Shown.{Shown}

abbrev pub phase_mark : Shown → Mark
phase_mark x = phase x.held.phase x.held.rule.evidence

-- left code, label, derived and start boundary kept, right end boundary, events appended unsorted, wider whole uncertainty
abbrev pub merged_shown : Shown → Shown → Shown
merged_shown a b =
    record {
      held = record { start = a.held.start; end = b.held.end; phase = a.held.phase; rule = a.held.rule };
      whole = widest_of a.whole b.whole;
      events = a.events ++ b.events;
    }

abbrev pub phases : Body Shown
phases = record { mark = phase_mark; merge = merged_shown }
