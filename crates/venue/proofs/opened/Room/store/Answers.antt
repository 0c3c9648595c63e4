use Rattle.std.proofs.Common.{arith, ◌≡◌, refl, sym, ◌∙◌, ◌+◌}
use Rattle.std.specs.Int.{w32, w64}
use Rattle.wire.specs.Signs.{turned}
use Rattle.records.specs.Layout.{number, transition_instant, transition_offset}
use Rattle.records.specs.Book.{next_at}
use Rattle.records.proofs.Frames.{size_by, room2, next2}
use Rattle.venue.proofs.Passing.{pass_start, standing, frame, range, room_change, room_rule, room_event, pass_change, pass_rule, pass_event, pass_other, pass_end, instant_fits, instant_kept, offset_kept}
use Rattle.venue.proofs.opened.Room.store.Goals as goal

-- before the first record
pub loop-at-init : goal.loop-at-init
loop-at-init c = pass_start _ _ _ _ _ c.requires (omega arith) (omega arith) (omega arith) (omega arith)

-- a record's length and kind stand inside the book
pub get-kind-requires : goal.get-kind-requires
get-kind-requires c = let h = standing c.loop-at.invariant c.loop-at-test.true in omega (arith, (frame h).head)

-- a clock change: its fields stand inside the book and are in their ranges, and there is place for it
pub get-seconds-requires : goal.get-seconds-requires
get-seconds-requires c =
    let h = standing c.loop-at.invariant c.loop-at-test.true in
    let k = sym c.get-kind.ensures ∙ c.if-kind-eq-TRANSITION.true in
    omega (arith, room2 _ _ _ (frame h) refl k)

pub get-offset-requires : goal.get-offset-requires
get-offset-requires c =
    let h = standing c.loop-at.invariant c.loop-at-test.true in
    let k = sym c.get-kind.ensures ∙ c.if-kind-eq-TRANSITION.true in
    omega (arith, room2 _ _ _ (frame h) refl k)

pub instant_of_seconds-requires : goal.instant_of_seconds-requires
instant_of_seconds-requires c =
    let h = standing c.loop-at.invariant c.loop-at-test.true in
    let k = sym c.get-kind.ensures ∙ c.if-kind-eq-TRANSITION.true in
    let e : c.get-seconds.result.0 ≡ turned w64 (number transition_instant c.args.book.now c.loop-at.at) = cc in
    instant_fits (range h k) e

pub bounds-self-change : goal.bounds-self-change
bounds-self-change c =
    let h = standing c.loop-at.invariant c.loop-at-test.true in
    let k = sym c.get-kind.ensures ∙ c.if-kind-eq-TRANSITION.true in
    omega (arith, (room_change h k).0, c.loop-at.invariant.changing.to_ats.kept)

pub overflow_sub-self : goal.overflow_sub-self
overflow_sub-self c =
    let h = standing c.loop-at.invariant c.loop-at-test.true in
    let k = sym c.get-kind.ensures ∙ c.if-kind-eq-TRANSITION.true in
    let e : c.get-offset.result.0 ≡ turned w32 (number transition_offset c.args.book.now c.loop-at.at) = cc in
    omega (arith, (range h k).offset_low, e)

pub bounds-self-change-then-kind-eq-TRANSITION : goal.bounds-self-change-then-kind-eq-TRANSITION
bounds-self-change-then-kind-eq-TRANSITION c =
    let h = standing c.loop-at.invariant c.loop-at-test.true in
    let k = sym c.get-kind.ensures ∙ c.if-kind-eq-TRANSITION.true in
    omega (arith, (room_change h k).1, c.loop-at.invariant.changing.to_offsets.kept)

pub loop-at-preserved-then-kind-eq-TRANSITION : goal.loop-at-preserved-then-kind-eq-TRANSITION
loop-at-preserved-then-kind-eq-TRANSITION c =
    let h = standing c.loop-at.invariant c.loop-at-test.true in
    let k = sym c.get-kind.ensures ∙ c.if-kind-eq-TRANSITION.true in
    let at : c.get-seconds.result.0 ≡ turned w64 (number transition_instant c.args.book.now c.loop-at.at) = cc in
    let offset : c.get-offset.result.0 ≡ turned w32 (number transition_offset c.args.book.now c.loop-at.at) = cc in
    pass_change h (next2 _ _ _ (frame h) refl k) k (instant_kept (range h k) at c.instant_of_seconds.ensures) (offset_kept (range h k) _ offset)

-- another record
pub get-requires : goal.get-requires
get-requires c = let h = standing c.loop-at.invariant c.loop-at-test.true in omega (arith, (frame h).head)

-- there is place for a rule's and for an event's
pub bounds-self-rule : goal.bounds-self-rule
bounds-self-rule c =
    let h = standing c.loop-at.invariant c.loop-at-test.true in
    omega (arith, room_rule h (sym c.get-kind.ensures ∙ c.in-3.is), c.loop-at.invariant.ruling.storing.kept)

pub bounds-self-event : goal.bounds-self-event
bounds-self-event c =
    let h = standing c.loop-at.invariant c.loop-at-test.true in
    omega (arith, room_event h (sym c.get-kind.ensures ∙ c.in-4.is), c.loop-at.invariant.eventing.storing.kept)

-- behind a rule, behind an event, and behind the coverage
pub loop-at-preserved-in-3 : goal.loop-at-preserved-in-3
loop-at-preserved-in-3 c =
    let h = standing c.loop-at.invariant c.loop-at-test.true in
    let n : c.loop-at.at + 2 + c.get.result ≡ next_at c.args.book.now c.loop-at.at =
    omega (arith, size_by c.args.book.now c.loop-at.at _ c.get.ensures) in
    pass_rule h n (sym c.get-kind.ensures ∙ c.in-3.is)

pub loop-at-preserved-in-4 : goal.loop-at-preserved-in-4
loop-at-preserved-in-4 c =
    let h = standing c.loop-at.invariant c.loop-at-test.true in
    let n : c.loop-at.at + 2 + c.get.result ≡ next_at c.args.book.now c.loop-at.at =
    omega (arith, size_by c.args.book.now c.loop-at.at _ c.get.ensures) in
    pass_event h n (sym c.get-kind.ensures ∙ c.in-4.is)

pub loop-at-preserved : goal.loop-at-preserved
loop-at-preserved c =
    let h = standing c.loop-at.invariant c.loop-at-test.true in
    let n : c.loop-at.at + 2 + c.get.result ≡ next_at c.args.book.now c.loop-at.at =
    omega (arith, size_by c.args.book.now c.loop-at.at _ c.get.ensures) in
    pass_other h n (λ e. c.if-kind-eq-TRANSITION.false (c.get-kind.ensures ∙ e)) (λ e. omega arith) (λ e. omega arith)

-- behind the last record
pub returns : goal.returns
returns c = pass_end c.loop-at.invariant c.loop-at-test.false
