-- What the code joins by is what spans show, and what it makes of two is what joined spans show. Assumes nothing.
use mathlib.Core.Path.{◌≡◌, sym, ap, ap₂}
use mathlib.Core.Bool.{Bool, true}
use Prim.Native.Nat.{ℕ}
use lib.ListN.{length, length-append}
use borrow.Author.Tests.{eqb-true}
use lib.Dec.{eqb}
use Rattle.wire.proofs.Signs.{and_true}
use Rattle.spans.specs.Spans.{Span, same_mark, joins, joined_span}
use Rattle.answer.specs.declared.Phase.{Phase}
use Rattle.span_records.specs.Shown.{Shown, head_of}
use Rattle.joining.specs.Joining.{phases}
use Rattle.joining.specs.Amending.{is_joinable, merged_phase}
use Rattle.joining.specs.declared.Last.{Last}
use Rattle.std.specs.Prelude.{Option, Some}

abbrev pub many : Span Shown → ℕ
many s = length s.body.events

-- a span's record, as the code holds it
abbrev pub head_at : Span Shown → Phase
head_at s = head_of s.from s.to s.body.held s.body.whole (many s)

-- the record of two that join
pub both_heads : (s q : Span Shown) → merged_phase (head_at s) (head_at q) ≡ head_at (joined_span phases s q)
both_heads s q =
    ap (λ (n : ℕ). head_of s.from q.to (joined_span phases s q).body.held (joined_span phases s q).body.whole n)
    (sym (length-append s.body.events q.body.events))

-- what a span shows that the next may join
abbrev pub last_at : Span Shown → Option Last
last_at s = Some (record { until = record { 0 = s.to }; phase = s.body.held.phase; evidence = s.body.held.rule.evidence })

abbrev pub joins_next : Option Last → Span Shown → Bool
joins_next last q = is_joinable last q.from q.body.held.phase q.body.held.rule.evidence

-- a span that joins the one before shows what that showed
pub same_last : (s q : Span Shown) → joins phases s q ≡ true → last_at (joined_span phases s q) ≡ last_at q
same_last s q e =
    let a = s.body.held in
    let b = q.body.held in
    let m = and_true (eqb a.phase b.phase) (eqb a.rule.evidence b.rule.evidence) (and_true (eqb s.to q.from) (same_mark (phases.mark s.body) (phases.mark q.body)) e).1 in
    ap₂ (λ (p e : ℕ). Some (record { until = record { 0 = q.to }; phase = p; evidence = e })) (eqb-true a.phase b.phase m.0) (eqb-true a.rule.evidence b.rule.evidence m.1)
