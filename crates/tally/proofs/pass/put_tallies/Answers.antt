use Rattle.std.proofs.Common.{◌∙◌}
use Rattle.tally.proofs.Passing.{venue_coming, venue_all_coming, venue_walked, last_coming, last_ending, last_put}
use Rattle.tally.proofs.pass.put_tallies.Goals as goal

pub stretch-requires : goal.stretch-requires
stretch-requires c =
    rw (c.new-pages.ensures.0, c.min.ensures) (venue_coming c.args.venue.now _ _ c.requires.0 c.requires.1 c.new-pages.ensures.1)

pub count_walk-requires : goal.count_walk-requires
count_walk-requires c =
    let first = rw (c.new-pages.ensures.0, c.min.ensures) at c.stretch.ensures.0 in
    let same = c.stretch.ensures.1 ∙ c.new-pages.ensures.0 in
    rw (same, c.max.ensures, c.min-2.ensures) (venue_all_coming c.args.venue.now _ _ c.requires.0 c.requires.1 c.new-pages.ensures.1 first)

pub stretch-requires-2 : goal.stretch-requires-2
stretch-requires-2 c =
    let first = rw (c.new-pages.ensures.0, c.min.ensures) at c.stretch.ensures.0 in
    let same = c.stretch.ensures.1 ∙ c.new-pages.ensures.0 in
    let walked = rw (same, c.max.ensures, c.min-2.ensures) at c.count_walk.ensures.0 in
    let same_2 = c.count_walk.ensures.1 ∙ same in
    rw (same_2, c.max-2.ensures) (last_coming (venue_walked c.args.venue.now _ _ c.requires.0 c.requires.1 c.new-pages.ensures.1 first walked))

pub finish-requires : goal.finish-requires
finish-requires c =
    let first = rw (c.new-pages.ensures.0, c.min.ensures) at c.stretch.ensures.0 in
    let same = c.stretch.ensures.1 ∙ c.new-pages.ensures.0 in
    let walked = rw (same, c.max.ensures, c.min-2.ensures) at c.count_walk.ensures.0 in
    let same_2 = c.count_walk.ensures.1 ∙ same in
    let last = rw (same_2, c.max-2.ensures) at c.stretch-2.ensures.0 in
    let same_3 = c.stretch-2.ensures.1 ∙ same_2 in
    rw same_3 (last_ending (venue_walked c.args.venue.now _ _ c.requires.0 c.requires.1 c.new-pages.ensures.1 first walked) last)

pub returns : goal.returns
returns c =
    let first = rw (c.new-pages.ensures.0, c.min.ensures) at c.stretch.ensures.0 in
    let same = c.stretch.ensures.1 ∙ c.new-pages.ensures.0 in
    let walked = rw (same, c.max.ensures, c.min-2.ensures) at c.count_walk.ensures.0 in
    let same_2 = c.count_walk.ensures.1 ∙ same in
    let last = rw (same_2, c.max-2.ensures) at c.stretch-2.ensures.0 in
    let ended = rw (c.stretch-2.ensures.1 ∙ same_2) at c.finish.ensures in
    last_put (venue_walked c.args.venue.now _ _ c.requires.0 c.requires.1 c.new-pages.ensures.1 first walked) last ended
