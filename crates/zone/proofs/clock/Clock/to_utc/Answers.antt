use Rattle.std.proofs.Common.{◌≡◌, ℕ, suc, ◌+◌, ◌-◌, ◌^◌, ◌<◌, ◌≤◌, ◌∷◌, List, length, get_or, sym, ap, ◌∙◌, ap₂, arith}
use lib.ListN.{get_or-eq_default}
use Rattle.zone.specs.declared.Resolution.TheVariants.{Clear}
use Rattle.zone.specs.Private.{Passed, around}
use Rattle.zone.specs.Units.{most_offset_ns, nearest_reading}
use Rattle.zone.specs.Zone.{zone_of, instant_by, resolve}
use Rattle.zone.specs.Answers.{Valid}
use Rattle.zone.proofs.Passing.{get_d_within, offset_in, none_near, one_near}
use Rattle.zone.proofs.clock.Clock.to_utc.Goals as goal

-- the instant by the offset before the next transition
by_before : (wall : ℕ) {o p a : ℕ} → a ≡ instant_by o wall → o ≡ p → a ≡ instant_by p wall
by_before wall e f = e ∙ ap (λ (q : ℕ). instant_by q wall) f

-- k transitions have passed 57,600 s before the reading on the wall that is nearest to x
module _ {first : ℕ} {ats os : List ℕ} (ok : Valid first ats os) (x wall : ℕ) {k a : ℕ} (nearest : wall ≡ nearest_reading x)
    (p : Passed ats (wall - most_offset_ns) k) (before : a ≡ instant_by (get_or (first ∷ os) k 0) wall) where
  -- the next one stands too late to matter
  clear : wall + most_offset_ns < get_or ats k (2 ^ 64) → Clear (record { 0 = a }) ≡ resolve (zone_of first ats os) (nearest_reading x)
  clear late =
      ap (λ (t : ℕ). Clear (record { 0 = t })) before
      ∙ sym (none_near first ats os ok wall k (omega arith) p late)
      ∙ ap (resolve (zone_of first ats os)) nearest

  -- the next one stands near
  near : {b : ℕ} → k < length ats → get_or ats k 0 ≤ wall + most_offset_ns → b ≡ instant_by (get_or os k 0) wall
      → around (get_or ats k 0) a b ≡ resolve (zone_of first ats os) (nearest_reading x)
  near within early after =
      ap₂ (around (get_or ats k 0)) before after
      ∙ sym (one_near first ats os ok wall k (omega arith) p (omega arith) within early)
      ∙ ap (resolve (zone_of first ats os)) nearest

pub instant_by-a-requires : goal.instant_by-a-requires
instant_by-a-requires c = omega (arith, offset_in _ _ _ c.passed-count.result c.args.self.now.valid c.passed-count.ensures.most)

pub returns-then-ats-count : goal.returns-then-ats-count
returns-then-ats-count c =
    let past = get_or-eq_default c.args.self.now.ats.now (2 ^ 64) c.if-ats-count.true in
    clear c.args.self.now.valid _ _ c.clamp-wall.ensures c.passed-count.ensures (by_before _ c.instant_by-a.ensures c.offset_after.ensures) (rw past (omega arith))

pub returns-then-wall-at : goal.returns-then-wall-at
returns-then-wall-at c =
    let same = get_d_within c.args.self.now.ats.now c.passed-count.result (2 ^ 64) 0 c.if-ats-count.false in
    clear c.args.self.now.valid _ _ c.clamp-wall.ensures c.passed-count.ensures (by_before _ c.instant_by-a.ensures c.offset_after.ensures)
    (rw same c.if-wall-at.true)

pub instant_by-requires : goal.instant_by-requires
instant_by-requires c = omega (arith, offset_in _ _ _ (suc c.passed-count.result) c.args.self.now.valid c.if-ats-count.false)

pub returns : goal.returns
returns c =
    c.around.ensures
    ∙ near c.args.self.now.valid _ _ c.clamp-wall.ensures c.passed-count.ensures (by_before _ c.instant_by-a.ensures c.offset_after.ensures) c.if-ats-count.false
    c.if-wall-at.false c.instant_by.ensures
