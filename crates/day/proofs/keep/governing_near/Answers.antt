use Rattle.std.proofs.Common.{◌≡◌, ◌∙◌}
use Rattle.day.specs.Keeping.{kept_after, KeepsFor}
use Rattle.day.proofs.Keeping.{after_anew, after_still, after_keeps, after_many, part_listed, part_chosen}
use Rattle.day.proofs.keep.governing_near.Goals as goal
use Rattle.day.proofs.keep.governing_near.Goals.{Joined-d-kept, then-d-kept, else-d-kept}

-- the array is as it is after the date is asked for
now_is : (c : Joined-d-kept) → c.if-d-kept.kept ≡ kept_after c.args.rules.now.book.now c.args.rules.now.places.now c.args.d.0 c.args.kept.now
now_is c =
    let rules = c.args.rules.now in
    let few = c.if-rules-gt-MOST_RULES.false in
    elim c.if-d-kept.branch [
      | then-d-kept w ↦ rw w.kept-is (w.keep.ensures ∙ after_anew _ rules.places.now _ _ rules.listed few w.if-d-kept.true)
      | else-d-kept w ↦ rw w.kept-is (after_still _ rules.places.now _ _ rules.listed few w.if-d-kept.false)
    ]

-- and so the rules are kept for the date
now_keeps : (c : Joined-d-kept) → KeepsFor c.args.rules.now.book.now c.args.rules.now.places.now c.args.d.0 c.if-d-kept.kept
now_keeps c =
    let rules = c.args.rules.now in
    rw (now_is c) (after_keeps _ rules.places.now c.args.kept.now c.args.d.0 rules.listed c.if-rules-gt-MOST_RULES.false c.requires.1 c.requires.0)

pub returns-then-rules-gt-MOST_RULES : goal.returns-then-rules-gt-MOST_RULES
returns-then-rules-gt-MOST_RULES c =
    let rules = c.args.rules.now in
    let told = c.governing_rule.ensures in
    (told.0, told.1, told.2, c.requires.0, after_many _ rules.places.now _ _ rules.listed c.if-rules-gt-MOST_RULES.true)

pub slice_bounds-close-end : goal.slice_bounds-close-end
slice_bounds-close-end c = (now_keeps (goal.at.slice_bounds-close-end c).Joined-d-kept).keeps.fits

pub invariant_of-close : goal.invariant_of-close
invariant_of-close c = record { listed = part_listed (now_keeps (goal.at.invariant_of-close c).Joined-d-kept).keeps }

pub returns : goal.returns
returns c =
    let k = now_keeps (goal.at.returns c).Joined-d-kept in
    let told = c.governing_rule-2.ensures in
    let is = part_chosen k c.governing_rule-2.result told.1 told.2 in
    (is.0, is.1, is.2, k.keeps, now_is (goal.at.returns c).Joined-d-kept)
