use Rattle.std.proofs.Common.{◌∙◌}
use Rattle.tally.proofs.Passing.{blank_first, last_coming, last_ending, last_put}
use Rattle.tally.proofs.pass.put_blank.Goals as goal

pub stretch-requires : goal.stretch-requires
stretch-requires c =
    rw c.new-pages.ensures.0 (last_coming (blank_first c.requires.0 c.requires.1 c.new-pages.ensures.1))

pub finish-requires : goal.finish-requires
finish-requires c =
    let opens = blank_first c.requires.0 c.requires.1 c.new-pages.ensures.1 in
    let counted = rw c.new-pages.ensures.0 at c.stretch.ensures.0 in
    let same = c.stretch.ensures.1 ∙ c.new-pages.ensures.0 in
    rw same (last_ending opens counted)

pub returns : goal.returns
returns c =
    let opens = blank_first c.requires.0 c.requires.1 c.new-pages.ensures.1 in
    let counted = rw c.new-pages.ensures.0 at c.stretch.ensures.0 in
    let same = c.stretch.ensures.1 ∙ c.new-pages.ensures.0 in
    let ended = rw same at c.finish.ensures in
    last_put opens counted ended
