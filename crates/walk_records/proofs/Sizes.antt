-- How many bytes the records of a walk's spans take, joined, span by span. Assumes nothing.
use mathlib.Core.Path.{◌≡◌, refl, ap, ◌∙◌}
use mathlib.Core.Bool.{Bool, true, false, cond}
use mathlib.Core.List.{List, [], ◌∷◌, ◌++◌, map}
use Prim.Native.Nat.{ℕ, suc, ◌+◌, ◌*◌, ◌^◌, ◌≤◌, ◌<◌}
use native.Mathlib.Omega.{arith}
use lib.ListN.{length, length-append}
use Rattle.records.proofs.Laid.{laid_length}
use Rattle.spans.specs.Spans.{Span, joins, joined_span, join_from, joined}
use Rattle.events.specs.declared.Occurrence.{Occurrence}
use Rattle.answer.specs.Forms.{Form, phase, encode, encode_all, all_fields, phase_size, event_size}
use Rattle.answer.specs.Meaning.{phase_of}
use Rattle.answer.specs.declared.Phase.{Phase}
use Rattle.answer.proofs.Several.{encode_append}
use Rattle.span_records.specs.Shown.{Shown, event_form}
use Rattle.span_records.proofs.Trailing.{events_length}
use Rattle.events.specs.Happenings.{most_in_span}
use Rattle.records.specs.Limits.{base}
use Rattle.spans.specs.Timeline.{turns}
use Rattle.joining.specs.Joining.{phases}
use Rattle.joining.proofs.Laws.{many, head_at, last_at, joins_next, same_last}
use Rattle.walk_records.specs.Walked.{phase_forms}
use Rattle.joining.specs.declared.Last.{Last}
use Rattle.std.specs.Prelude.{Option, None}

-- ---- the bytes of a span

-- its record, and its events
abbrev pub head_bytes : Span Shown → List ℕ
head_bytes s = encode (phase (phase_of (head_at s)))

abbrev pub event_bytes : Span Shown → List ℕ
event_bytes s = encode_all (map event_form s.body.events)

abbrev pub bytes_of : List (Span Shown) → List ℕ
bytes_of ss = encode_all (phase_forms ss)

pub head_length : (p : Phase) → length (encode (phase (phase_of p))) ≡ phase_size
unfolding encode
head_length p = laid_length (all_fields (phase (phase_of p)))

pub bytes_cons : (s : Span Shown) (ss : List (Span Shown)) → bytes_of (s ∷ ss) ≡ head_bytes s ++ (event_bytes s ++ bytes_of ss)
unfolding phase_forms encode_all
bytes_cons s ss = ap (λ (x : List ℕ). head_bytes s ++ x) (encode_append (map event_form s.body.events) (phase_forms ss))

pub cons_length : (s : Span Shown) (ss : List (Span Shown)) → length (bytes_of (s ∷ ss)) ≡ phase_size + event_size * many s + length (bytes_of ss)
cons_length s ss =
    let a = length-append (head_bytes s) (event_bytes s ++ bytes_of ss) in
    let b = length-append (event_bytes s) (bytes_of ss) in
    let c = head_length (head_at s) in
    let d = events_length s.body.events in
    ap length (bytes_cons s ss) ∙ omega arith

-- ---- two spans that join

events_append : (a b : List Occurrence) → encode_all (map event_form (a ++ b)) ≡ encode_all (map event_form a) ++ encode_all (map event_form b)
events_append a b = ap encode_all (map_append a b) ∙ encode_append (map event_form a) (map event_form b)
  where
    map_append : (a b : List Occurrence) → map event_form (a ++ b) ≡ map event_form a ++ map event_form b
    map_append [] b = refl
    map_append (x ∷ a) b = ap (λ (l : List Form). event_form x ∷ l) (map_append a b)

-- their events
pub both_events : (s q : Span Shown) → event_bytes (joined_span phases s q) ≡ event_bytes s ++ event_bytes q
both_events s q = events_append s.body.events q.body.events

-- ---- the first pass: what the spans that are left add

unfoldable pub more : Option Last → List (Span Shown) → ℕ
more last [] = 0
more last (q ∷ qs) = cond (joins_next last q) 0 phase_size + event_size * many q + more (last_at q) qs

pub from_more : (s : Span Shown) (qs : List (Span Shown)) → length (bytes_of (join_from phases s qs)) ≡ phase_size + event_size * many s + more (last_at s) qs
unfolding join_from more phase_forms encode_all
from_more s [] = cons_length s [] ∙ omega arith
from_more s (q ∷ qs) = go (joins phases s q) refl (from_more (joined_span phases s q) qs) (from_more q qs)
  where
    go : (b : Bool) → joins phases s q ≡ b
        → length (bytes_of (join_from phases (joined_span phases s q) qs)) ≡ phase_size + event_size * many (joined_span phases s q) + more (last_at (joined_span phases s q)) qs
        → length (bytes_of (join_from phases q qs)) ≡ phase_size + event_size * many q + more (last_at q) qs
        → length (bytes_of (cond b (join_from phases (joined_span phases s q) qs) (s ∷ join_from phases q qs))) ≡ phase_size + event_size * many s + (cond b 0 phase_size + event_size * many q + more (last_at q) qs)
    go true e one two =
        let l = ap (λ (x : Option Last). more x qs) (same_last s q e) in
        let m = length-append s.body.events q.body.events in
        omega arith
    go false e one two = let l = cons_length s (join_from phases q qs) in omega arith

-- of all
all_more : (qs : List (Span Shown)) → length (bytes_of (joined phases qs)) ≡ more None qs
unfolding joined more phase_forms encode_all
all_more [] = refl
all_more (q ∷ qs) = from_more q qs ∙ omega arith

-- so many bytes at most for a span, of so many at most
abbrev pub span_most : ℕ
span_most = phase_size + event_size * most_in_span

abbrev pub spans_most : ℕ
spans_most = base.points * turns

pub record Sizing (total : ℕ) (last : Option Last) (size : ℕ) (left : List (Span Shown)) : Type 0 where
  pub same : size + more last left ≡ total
  pub few : size + span_most * length left ≤ span_most * spans_most

pub size_start : (qs : List (Span Shown)) → length qs ≤ spans_most → Sizing (length (bytes_of (joined phases qs))) None 0 qs
size_start qs h = record { same = omega (arith, all_more qs); few = omega arith }

pub size_one : {total size size' : ℕ} {last last' : Option Last} {q : Span Shown} {qs : List (Span Shown)} → Sizing total last size (q ∷ qs) → many q ≤ most_in_span
    → size' ≡ size + cond (joins_next last q) 0 phase_size + event_size * many q → last' ≡ last_at q → Sizing total last' size' qs
unfolding more
size_one {total} {size} {size'} {last} {last'} {q} {qs} w h e i =
    rw i (record { same = let s = w.same in omega arith; few = go (joins_next last q) w.few e })
  where
    go : (b : Bool) → size + span_most * suc (length qs) ≤ span_most * spans_most → size' ≡ size + cond b 0 phase_size + event_size * many q
        → size' + span_most * length qs ≤ span_most * spans_most
    go true f g = omega arith
    go false f g = omega arith

pub size_end : {total size : ℕ} {last : Option Last} {left : List (Span Shown)} → Sizing total last size left → left ≡ [] → (size ≡ total) × (size < 2 ^ 32)
unfolding more
size_end {last = last} w e = (let s = w.same in let n = ap (more last) e in omega arith, let f = w.few in omega arith)
