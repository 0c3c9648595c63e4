use Rattle.std.proofs.Common.{ℕ, ◌≡◌, List, length, refl, sym, ap, ◌∙◌, arith}
use Rattle.zone.specs.declared.Uncertainty.{Uncertainty}
use Rattle.venue.specs.declared.venue.Venue.{Venue}
use Rattle.day.specs.Meaning.{held_by}
use Rattle.day.specs.Days.{Held}
use Rattle.day.specs.Venues.{book_in, values_in}
use Rattle.day.specs.declared.DaySegment.{DaySegment}
use Rattle.events.specs.Happenings.{found}
use Rattle.events.proofs.Order.{length_sorted}
use Rattle.answer.specs.Forms.{encode_all}
use Rattle.answer.specs.Meaning.{phase_of}
use Rattle.lend.proofs.Replies.{lent_short, lent_written}
use Rattle.span_records.specs.Shown.{Shown, shown, shown_forms, head_of}
use Rattle.span_records.proofs.Showing.{shown_length, shown_put}
use Rattle.point.proofs.reply.tell_known.Goals as goal

-- what is shown of the span, and its records
module _ (v : Venue) (g : DaySegment) where
  abbrev held_in : Held
  held_in = held_by (book_in v) g

  abbrev shown_in : Shown
  shown_in = shown (values_in v).zone (values_in v).events held_in

  abbrev answer : List ℕ
  answer = encode_all (shown_forms g.start.at.0 g.end.at.0 shown_in)

-- its events are those counted
counted : (v : Venue) (g : DaySegment) {n : ℕ} → n ≡ length (found (values_in v).zone (values_in v).events g.start.at.0 g.end.at.0)
    → n ≡ length (shown_in v g).events
counted v g e = e ∙ sym (length_sorted _)

pub returns-then-out-count : goal.returns-then-out-count
returns-then-out-count c =
    let v = c.args.venue.now in
    let g = c.args.g in
    let n = counted v g c.count_events-count.ensures.0 in
    lent_short (answer v g) _ refl (omega (arith, c.if-out-count.true, shown_length g.start.at.0 g.end.at.0 (shown_in v g), n))

pub returns : goal.returns
returns c =
    let v = c.args.venue.now in
    let g = c.args.g in
    let n = counted v g c.count_events-count.ensures.0 in
    let count = c.count_events-count.result in
    let head =
    ap phase_of
    (c.phase_of-head.ensures ∙ ap (λ (u : Uncertainty). head_of g.start.at.0 g.end.at.0 (held_in v g) u count) c.widest-whole.ensures) in
    let w =
    shown_put g.start.at.0 g.end.at.0 (shown_in v g) n head c.put_phase-at.ensures c.put_events-trail.ensures.put
    (omega (arith, c.count_events-count.ensures.0, c.if-out-count.false)) in
    lent_written (answer v g) _ refl
    (omega (arith, c.if-out-count.false, shown_length g.start.at.0 g.end.at.0 (shown_in v g), n)) w.same (omega (arith, w.behind, w.many))
