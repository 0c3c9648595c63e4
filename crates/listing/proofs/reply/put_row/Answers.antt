-- The row's text fits, and the segments' lines stand behind the first line.
use Rattle.std.proofs.Common.{arith}
use Rattle.listing.proofs.Bounds.{row_fits}
use Rattle.listing.proofs.Writing.{front, rest, both}
use Rattle.listing.proofs.reply.put_row.Goals as goal

pub put_head-next-requires : goal.put_head-next-requires
put_head-next-requires c =
    let pre = c.requires in
    let fits = row_fits _ (λ k. omega (arith, c.type_inv.answer k)) c.args.out.now pre.0 pre.1 pre.2 in
    rw c.count.ensures (front _ fits)

pub put_all-requires : goal.put_all-requires
put_all-requires c =
    let pre = c.requires in
    let fits = row_fits _ (λ k. omega (arith, c.type_inv.answer k)) c.args.out.now pre.0 pre.1 pre.2 in
    (pre.0, rest fits (rw c.count.ensures at c.put_head-next.ensures))

pub returns : goal.returns
returns c =
    let pre = c.requires in
    let fits = row_fits _ (λ k. omega (arith, c.type_inv.answer k)) c.args.out.now pre.0 pre.1 pre.2 in
    both fits (rw c.count.ensures at c.put_head-next.ensures) c.put_all.ensures
