use Rattle.std.proofs.Common.{arith, ◌≡◌, sym, ◌∙◌}
use Rattle.std.proofs.lemmas.Result.{err_from_is_err_and}
use Rattle.std.specs.Int.{w32, w64}
use Rattle.wire.specs.Signs.{turned}
use Rattle.lend.specs.Refusals.{number as number_told}
use Rattle.lend.proofs.Refusals.{refuses}
use Rattle.records.specs.Layout.{number, coverage_start, coverage_end, coverage_offset, rule_kind, event_kind}
use Rattle.records.specs.Book.{refusal}
use Rattle.records.specs.Limits.{base}
use Rattle.venue.proofs.Headers.{refused_answer, refused_kept, accepted_stored, nothing_stored, empty_answer, empty_places, empty_ats, empty_offsets, head, venue_answer}
use Rattle.venue.proofs.opened.Room.open.Goals as goal

-- a book that is refused
pub returns-in_err-check : goal.returns-in_err-check
returns-in_err-check c =
    let s = c.args.book.now in
    let r = c.in_err-check.field-0.0 in
    let told : number_told r ≡ refusal base s = c.in_err-check.ensures in
    let no : refusal base s ≡ 0 → ⊥ = λ z. refuses r (told ∙ z) in
    let kept = refused_kept s no in
    let p = err_from_is_err_and c.from_residual.result c.from_residual.ensures.1 in
    rw (p.1, p.2) (refused_answer s no _ told, kept _ _, kept _ _, kept _ _, kept _ _, told)

-- no bytes
pub returns-then-book-eq0 : goal.returns-then-book-eq0
returns-then-book-eq0 c =
    let s = c.args.book.now in
    let ok : 0 ≡ refusal base s = c.in_ok-check.ensures in
    let none = c.if-book-eq0.true in (
      empty_answer s (sym ok) none,
      nothing_stored s (sym ok) _ _ (empty_ats s (sym ok) none),
      nothing_stored s (sym ok) _ _ (empty_offsets s (sym ok) none),
      nothing_stored s (sym ok) _ _ (empty_places s (sym ok) none rule_kind),
      nothing_stored s (sym ok) _ _ (empty_places s (sym ok) none event_kind),
      ok,
    )

-- the first record of a book that is not empty
pub get-requires : goal.get-requires
get-requires c =
    let ok : 0 ≡ refusal base c.args.book.now = c.in_ok-check.ensures in
    omega (arith, (head c.args.book.now (sym ok) c.if-book-eq0.false).room)

pub get-requires-2 : goal.get-requires-2
get-requires-2 c =
    let ok : 0 ≡ refusal base c.args.book.now = c.in_ok-check.ensures in
    omega (arith, (head c.args.book.now (sym ok) c.if-book-eq0.false).room)

pub get-offset0-requires : goal.get-offset0-requires
get-offset0-requires c =
    let ok : 0 ≡ refusal base c.args.book.now = c.in_ok-check.ensures in
    omega (arith, (head c.args.book.now (sym ok) c.if-book-eq0.false).room)

pub overflow_sub-offset0 : goal.overflow_sub-offset0
overflow_sub-offset0 c =
    let s = c.args.book.now in
    let ok : 0 ≡ refusal base s = c.in_ok-check.ensures in
    let o : c.get-offset0.result.0 ≡ turned w32 (number coverage_offset s 0) = cc in
    omega (arith, o, (head s (sym ok) c.if-book-eq0.false).offset_low)

-- a venue
pub returns : goal.returns
returns c =
    let s = c.args.book.now in
    let ok : 0 ≡ refusal base s = c.in_ok-check.ensures in
    let start : c.get.result.0 ≡ turned w64 (number coverage_start s 0) = cc in
    let end : c.get-2.result.0 ≡ turned w64 (number coverage_end s 0) = cc in
    let offset : c.get-offset0.result.0 ≡ turned w32 (number coverage_offset s 0) = cc in
    let stored = c.store-n.ensures in
    let kept = accepted_stored s (sym ok) in (
      venue_answer s (sym ok) c.if-book-eq0.false start c.instant_of-start.ensures end c.instant_of-end.ensures offset stored.0,
      stored.1 ∙ kept _ _,
      stored.2 ∙ kept _ _,
      stored.3 ∙ kept _ _,
      stored.4 ∙ kept _ _,
      ok,
    )
