-- What the length says, and a known kind's size, against what a record of that kind should have.
use Rattle.std.proofs.Common.{arith}
use Rattle.records.proofs.Frames.{unframed, frame_sized, size_by}
use Rattle.book.proofs.judge.bad_frame.Goals as goal

pub returns-then-book-at : goal.returns-then-book-at
returns-then-book-at c = unframed c.args.book.now c.args.at (λ f. omega (arith, f.head, c.if-book-at.true))

pub returns-then-book-at-2 : goal.returns-then-book-at-2
returns-then-book-at-2 c =
    let z = size_by c.args.book.now c.args.at _ c.get-size.ensures in
    unframed c.args.book.now c.args.at (λ f. omega (arith, f.whole, z, c.if-book-at-2.true))

pub returns-in-1 : goal.returns-in-1
returns-in-1 c =
    let k = c.in-1.is in
    frame_sized c.args.book.now c.args.at c.if-book-at.false _ _ _ c.get-size.ensures c.if-book-at-2.false c.get-kind.ensures (omega arith)
    (omega arith) (rw k)

pub returns-in-2 : goal.returns-in-2
returns-in-2 c =
    let k = c.in-2.is in
    frame_sized c.args.book.now c.args.at c.if-book-at.false _ _ _ c.get-size.ensures c.if-book-at-2.false c.get-kind.ensures (omega arith)
    (omega arith) (rw k)

pub returns-in-3 : goal.returns-in-3
returns-in-3 c =
    let k = c.in-3.is in
    frame_sized c.args.book.now c.args.at c.if-book-at.false _ _ _ c.get-size.ensures c.if-book-at-2.false c.get-kind.ensures (omega arith)
    (omega arith) (rw (k, c.time_place.ensures.0, c.byte_or_0-n.ensures, c.count_place.ensures.0) (omega arith))

pub returns-in-4 : goal.returns-in-4
returns-in-4 c =
    let k = c.in-4.is in
    frame_sized c.args.book.now c.args.at c.if-book-at.false _ _ _ c.get-size.ensures c.if-book-at-2.false c.get-kind.ensures (omega arith)
    (omega arith) (rw (k, c.time_place-in-4.ensures.0, c.byte_or_0-n-in-4.ensures, c.count_place-in-4.ensures.0) (omega arith))

-- no other kind is known
pub returns-in_default : goal.returns-in_default
returns-in_default c = unframed c.args.book.now c.args.at (λ f. omega (arith, f.kind_low, f.kind_high))
