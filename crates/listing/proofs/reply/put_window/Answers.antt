-- A refusal's first line alone, or the text of the row that was answered.
use Rattle.std.proofs.Common.{ℕ, refl, ap₂, w64, arith}
use Rattle.std.proofs.Math.ListN.{length-replicate}
use Rattle.lend.proofs.Refusals.{refuses}
use Rattle.lend.proofs.Replies.{lent_same}
use Rattle.book_query.specs.Judging.{window_number}
use Rattle.timeline.specs.Asking.{window_answer}
use Rattle.listing.specs.Listing.{most}
use Rattle.listing.proofs.Asking.{refused_text, answered, puts_text}
use Rattle.listing.proofs.Bounds.{head_fits}
use mir.ValLaws.{to_z-of_z}
use Rattle.listing.proofs.reply.put_window.Goals as goal

pub put_head-requires : goal.put_head-requires
put_head-requires c = head_fits _ 0 _ (omega arith) (omega arith) c.requires

pub returns-in-Err : goal.returns-in-Err
returns-in-Err c =
    let start = to_z-of_z w64 c.args.start c.ranges.start in
    let end = to_z-of_z w64 c.args.end c.ranges.end in
    let lent = lent_same c.in-Err.ensures (ap₂ (window_number c.args.book.now) start end) (ap₂ (window_answer c.args.book.now) start end) in
    let text = refused_text c.args.book.now c.args.start c.args.end lent (length-replicate {A = ℕ} most 0) (refuses c.in-Err.why) in
    puts_text text (rw c.from.ensures at c.put_head.ensures)

pub put_row-requires : goal.put_row-requires
put_row-requires c =
    let start = to_z-of_z w64 c.args.start c.ranges.start in
    let end = to_z-of_z w64 c.args.end c.ranges.end in
    let lent = lent_same c.in-Ok.ensures (ap₂ (window_number c.args.book.now) start end) (ap₂ (window_answer c.args.book.now) start end) in
    let reply = answered c.args.book.now c.args.start c.args.end lent (length-replicate {A = ℕ} most 0) refl in
    (reply.good (λ k. omega (arith, c.type_inv.book k)), omega (arith, reply.long, reply.short), c.requires)

pub returns-in-Ok : goal.returns-in-Ok
returns-in-Ok c =
    let start = to_z-of_z w64 c.args.start c.ranges.start in
    let end = to_z-of_z w64 c.args.end c.ranges.end in
    let lent = lent_same c.in-Ok.ensures (ap₂ (window_number c.args.book.now) start end) (ap₂ (window_answer c.args.book.now) start end) in
    let reply = answered c.args.book.now c.args.start c.args.end lent (length-replicate {A = ℕ} most 0) refl in
    puts_text reply.text c.put_row.ensures
