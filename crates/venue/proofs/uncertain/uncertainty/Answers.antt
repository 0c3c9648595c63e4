use Rattle.std.proofs.Common.{◌≡◌, ap, ◌∙◌, ◌+◌}
use Rattle.std.specs.Int.{w64}
use Rattle.wire.specs.Fields.{field}
use Rattle.wire.specs.Signs.{turned}
use Rattle.venue.specs.Reading.{published}
use Rattle.venue.proofs.Listing.{uncertain_at, width_read, told_read, granular, bounded}
use Rattle.venue.proofs.uncertain.uncertainty.Goals as goal

pub overflow_sub-nanoseconds : goal.overflow_sub-nanoseconds
overflow_sub-nanoseconds c =
    let x : c.get-nanoseconds.result.0 ≡ turned w64 (field 8 c.args.book.now (c.args.at + c.tag_place.result + 1)) = cc in
    width_read (uncertain_at c.requires.0 c.requires.1) c.tag_place.ensures.0 x

pub returns-in-1 : goal.returns-in-1
returns-in-1 c =
    let x : c.get-nanoseconds.result.0 ≡ turned w64 (field 8 c.args.book.now (c.args.at + c.tag_place.result + 1)) = cc in
    let u = uncertain_at c.requires.0 c.requires.1 in
    let e = c.tag_place.ensures.0 in
    granular _ _ _ (width_read u e x) c.in-1.is ∙ ap published (told_read u e c.get-tag.ensures x c.get-text.ensures)

pub returns-in-2 : goal.returns-in-2
returns-in-2 c =
    let x : c.get-nanoseconds.result.0 ≡ turned w64 (field 8 c.args.book.now (c.args.at + c.tag_place.result + 1)) = cc in
    let u = uncertain_at c.requires.0 c.requires.1 in
    let e = c.tag_place.ensures.0 in
    bounded _ _ _ (width_read u e x) c.in-2.is ∙ ap published (told_read u e c.get-tag.ensures x c.get-text.ensures)
