-- What holds where a record begins, through its tests in order: each gives its number back, or leads to the next.
use Rattle.std.proofs.Common.{ℕ, ◌+◌, ◌&&◌, sym, ap, ◌∙◌, arith}
use Rattle.records.proofs.Frames.{framed, size_by, room2, next2}
use Rattle.book.proofs.Items.{looked_none}
use Rattle.book.proofs.Before.{start, over, end, stop_2, Known, known, head_2, many_3, fields_4, Fine, fine, headless_is, many_is, room_of, items_4, look_on, late_5, falls_6, reversed_7, covers_8, on_other, transition_9, on_transition}
use Rattle.book.proofs.verdict.check.Goals.{After-get-kind, Else-bad_fields}
use Rattle.book.proofs.verdict.check.Goals as goal

-- a record whose length is right, and whose kind was read
known_at : (c : After-get-kind) → Known c.args.book.now c.records.at c.records.t c.get-kind.result
known_at c = known c.records.invariant c.if-at-book.false (sym c.bad_frame.ensures ∙ c.if-bad_frame.false) _ c.get-kind.ensures

-- and whose fields are in range
fine_at : (c : Else-bad_fields) → Fine c.args.book.now c.records.at c.records.t c.get-kind.result
fine_at c =
    fine (known c.records.invariant c.if-at-book.false (sym c.bad_frame.ensures ∙ c.if-bad_frame.false) _ c.get-kind.ensures) c.if-t-kind.false
    (sym c.too_many.ensures ∙ c.if-too_many.false) (sym c.bad_fields.ensures ∙ c.if-bad_fields.false)

pub returns-then-book-gt-MOST_BYTES : goal.returns-then-book-gt-MOST_BYTES
returns-then-book-gt-MOST_BYTES c = over _ c.if-book-gt-MOST_BYTES.true

pub records-init : goal.records-init
records-init c = start _ c.if-book-gt-MOST_BYTES.false

pub get-requires : goal.get-requires
get-requires c = let f = framed _ _ (sym c.bad_frame.ensures ∙ c.if-bad_frame.false) in omega (arith, f.head)

pub get-kind-requires : goal.get-kind-requires
get-kind-requires c = let f = framed _ _ (sym c.bad_frame.ensures ∙ c.if-bad_frame.false) in omega (arith, f.head)

pub bad_fields-requires : goal.bad_fields-requires
bad_fields-requires c = let n = known_at (goal.at.bad_fields-requires c).After-get-kind in (n.frame, n.kind)

pub too_close-requires : goal.too_close-requires
too_close-requires c =
    let n = known_at (goal.at.too_close-requires c).After-get-kind in
    room2 _ _ _ n.frame n.kind c.if-kind-eq-TRANSITION.true

pub one_more-t-requires : goal.one_more-t-requires
one_more-t-requires c =
    let p = fine_at (goal.at.one_more-t-requires c).Else-bad_fields in
    (p.known.frame, p.known.kind, room_of p.known p.fields)

pub records-preserved-then-kind-eq-TRANSITION : goal.records-preserved-then-kind-eq-TRANSITION
records-preserved-then-kind-eq-TRANSITION c =
    let p = fine_at (goal.at.records-preserved-then-kind-eq-TRANSITION c).Else-bad_fields in
    on_transition p c.if-kind-eq-TRANSITION.true (sym c.too_close.ensures ∙ c.if-too_close.false) _ c.one_more-t.ensures _
    (next2 _ _ _ p.known.frame p.known.kind c.if-kind-eq-TRANSITION.true)

pub items-n-requires : goal.items-n-requires
items-n-requires c = let n = known_at (goal.at.items-n-requires c).After-get-kind in (n.frame, n.kind)

pub loop-init : goal.loop-init
loop-init c = record { fine = fine_at (goal.at.loop-init c).Else-bad_fields; many = c.items-n.ensures; looked = looked_none _ _ _ _ }

pub loop-preserved : goal.loop-preserved
loop-preserved c =
    look_on c.loop.invariant _ _ c.loop-test.true (sym c.bad_item.ensures ∙ c.if-bad_item.false) c.item_time-time.ensures
    c.step_of-item.ensures.0

pub records-preserved : goal.records-preserved
records-preserved c =
    on_other c.loop.invariant c.loop-test.false (sym c.late_start.ensures ∙ c.if-late_start.false)
    (ap (◌&&◌ c.loop.falls) (sym c.is_rule.ensures) ∙ c.if-falls-is_rule.false) (sym c.is_reversed.ensures ∙ c.if-is_reversed.false)
    (sym c.covers_nothing.ensures ∙ c.if-covers_nothing.false) c.if-kind-eq-TRANSITION.false _ c.one_more-t-in-records.ensures _
    (ap (λ (z : ℕ). c.records.at + 2 + z) (size_by _ _ _ c.get.ensures))

pub returns-then-at-book : goal.returns-then-at-book
returns-then-at-book c = end c.records.invariant c.if-at-book.true

pub returns-then-bad_frame : goal.returns-then-bad_frame
returns-then-bad_frame c = stop_2 c.records.invariant c.if-at-book.false (sym c.bad_frame.ensures ∙ c.if-bad_frame.true)

pub returns-then-t-kind : goal.returns-then-t-kind
returns-then-t-kind c =
    let n = known_at (goal.at.returns-then-t-kind c).After-get-kind in head_2 n (sym (headless_is n) ∙ c.if-t-kind.true)

pub returns-then-too_many : goal.returns-then-too_many
returns-then-too_many c =
    let n = known_at (goal.at.returns-then-too_many c).After-get-kind in
    many_3 n (sym (headless_is n) ∙ c.if-t-kind.false) (sym (many_is n) ∙ sym c.too_many.ensures ∙ c.if-too_many.true)

pub returns-then-bad_fields : goal.returns-then-bad_fields
returns-then-bad_fields c =
    let n = known_at (goal.at.returns-then-bad_fields c).After-get-kind in
    fields_4 n (sym (headless_is n) ∙ c.if-t-kind.false) (sym (many_is n) ∙ sym c.too_many.ensures ∙ c.if-too_many.false)
    (sym c.bad_fields.ensures ∙ c.if-bad_fields.true)

pub returns-then-too_close : goal.returns-then-too_close
returns-then-too_close c =
    transition_9 (fine_at (goal.at.returns-then-too_close c).Else-bad_fields) c.if-kind-eq-TRANSITION.true
    (sym c.too_close.ensures ∙ c.if-too_close.true)

pub returns-then-bad_item : goal.returns-then-bad_item
returns-then-bad_item c = items_4 c.loop.invariant c.loop-test.true (sym c.bad_item.ensures ∙ c.if-bad_item.true)

pub returns-then-late_start : goal.returns-then-late_start
returns-then-late_start c = late_5 c.loop.invariant c.loop-test.false (sym c.late_start.ensures ∙ c.if-late_start.true)

pub returns-then-falls-is_rule : goal.returns-then-falls-is_rule
returns-then-falls-is_rule c =
    falls_6 c.loop.invariant c.loop-test.false (sym c.late_start.ensures ∙ c.if-late_start.false)
    (ap (◌&&◌ c.loop.falls) (sym c.is_rule.ensures) ∙ c.if-falls-is_rule.true)

pub returns-then-is_reversed : goal.returns-then-is_reversed
returns-then-is_reversed c =
    reversed_7 c.loop.invariant c.loop-test.false (sym c.late_start.ensures ∙ c.if-late_start.false)
    (ap (◌&&◌ c.loop.falls) (sym c.is_rule.ensures) ∙ c.if-falls-is_rule.false) (sym c.is_reversed.ensures ∙ c.if-is_reversed.true)

pub returns-then-covers_nothing : goal.returns-then-covers_nothing
returns-then-covers_nothing c =
    covers_8 c.loop.invariant c.loop-test.false (sym c.late_start.ensures ∙ c.if-late_start.false)
    (ap (◌&&◌ c.loop.falls) (sym c.is_rule.ensures) ∙ c.if-falls-is_rule.false) (sym c.is_reversed.ensures ∙ c.if-is_reversed.false)
    (sym c.covers_nothing.ensures ∙ c.if-covers_nothing.true)
