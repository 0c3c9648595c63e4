-- A first line alone for an input that is refused; else the text of the book and the window that it holds.
use Rattle.std.proofs.Common.{ℕ, sym, ap, ◌∙◌, arith}
use Rattle.wire.specs.declared.sign.Placed.{Placed}
use Rattle.listing.specs.Listing.{book, start, end}
use Rattle.listing.proofs.Asking.{too_long, no_query, is_query, told, edge, tail_book, same_window}
use Rattle.listing.proofs.Bounds.{head_fits}
use Rattle.listing.proofs.reply.list_text.Goals as goal

pub put_head-requires : goal.put_head-requires
put_head-requires c = head_fits _ 0 _ (omega arith) (omega arith) (omega arith)

pub returns-then-input-gt-MOST_BYTES : goal.returns-then-input-gt-MOST_BYTES
returns-then-input-gt-MOST_BYTES c =
    told (too_long _ (omega (arith, c.if-input-gt-MOST_BYTES.true))) (rw c.from.ensures at c.put_head.ensures) (omega arith)

pub put_head-requires-then-not-is_query : goal.put_head-requires-then-not-is_query
put_head-requires-then-not-is_query c = head_fits _ 0 _ (omega arith) (omega arith) (omega arith)

pub returns-then-not-is_query : goal.returns-then-not-is_query
returns-then-not-is_query c =
    told (no_query _ (omega (arith, c.if-input-gt-MOST_BYTES.false)) (sym c.is_query.ensures ∙ c.if-not-is_query.true))
    (rw c.from-then-not-is_query.ensures at c.put_head-then-not-is_query.ensures) (omega arith)

pub returns : goal.returns
returns c =
    let input = c.args.input.now in
    let from = edge _ _ c.from-start.result c.from-start.ensures (ap (λ (p : Placed ℕ). p.0) c.get.ensures) in
    let to = edge _ _ c.from-end.result c.from-end.ensures (ap (λ (p : Placed ℕ). p.0) c.get-2.ensures) in
    told
    (is_query input (omega (arith, c.if-input-gt-MOST_BYTES.false)) (sym c.is_query.ensures ∙ c.if-not-is_query.false)
    ∙ same_window (book input) _ (start input) _ (end input) _ (tail_book input) from to)
    c.put_window.ensures (omega arith)
