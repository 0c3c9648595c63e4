-- The timeline of every window is in order and has no two spans that touch and show the same; joining changes nothing that is shown; outside
-- coverage it shows a gap, inside what the walk shows. Assumes nothing.
use mathlib.Core.Path.{◌≡◌, ap, ◌∙◌}
use mathlib.Core.List.{List, [], ◌++◌}
use Rattle.std.specs.Prelude.{None, Some}
use Prim.Native.Nat.{ℕ, ◌≤◌, ◌<◌, min, max}
use native.Mathlib.Decide.{dec_le}
use native.Mathlib.Omega.{arith}
use Rattle.spans.specs.Spans.{unknown, Span, Body, keep, look, segment_at, Within, Apart}
use Rattle.spans.specs.Timeline.{Venue, Part, walk, turns, unjoined, timeline, blank}
use Rattle.spans.proofs.Lists.{append, keep_within, after, on_left, on_right, keep_in, keep_early, keep_late}
use Rattle.spans.proofs.Joining.{joined_within, joined_look, joined_apart}
use Rattle.spans.proofs.Walking.{walk_within, walk_none}

module _ {A : Type 0} (v : Venue A) (gap : A) (c w : Part) (covers : c.start < c.end) (opens : w.start < w.end) where
  abbrev lo : ℕ
  lo = max w.start c.start

  abbrev hi : ℕ
  hi = min w.end c.end

  abbrev walked : List (Span A)
  walked = walk v hi turns lo

  abbrev last : List (Span A)
  last = keep (max w.start c.end) w.end gap []

  last_within : (a : ℕ) → a ≤ max w.start c.end → a ≤ w.end → Within a w.end last
  last_within a h i = keep_within a w.end w.end (max w.start c.end) w.end gap [] h i (omega arith) (omega arith)

  pub unjoined_within : Within w.start w.end (unjoined v gap c w)
  unfolding unjoined
  unjoined_within = go (dec_le lo hi)
    where
      go : Dec (lo ≤ hi) → Within w.start w.end (keep w.start (min w.end c.start) gap (walked ++ last))
      go (yes h) =
          keep_within w.start lo w.end w.start (min w.end c.start) gap (walked ++ last) (omega arith) (omega arith) (omega arith)
          (append lo hi w.end walked last (walk_within v hi turns lo h) (last_within hi (omega arith) (omega arith)))
      go (no h) =
          let z = walk_none v hi turns lo (omega arith) in
          rw z
          (keep_within w.start (min w.end lo) w.end w.start (min w.end c.start) gap last (omega arith) (omega arith) (omega arith)
          (last_within (min w.end lo) (omega arith) (omega arith)))

  module _ {C : Type 0} (f : A → C) (t : ℕ) (from : w.start ≤ t) (to : t < w.end) where
    pub early : t < c.start → look f (unjoined v gap c w) t ≡ Some (f gap)
    unfolding unjoined
    early h = keep_in f t w.start (min w.end c.start) gap (walked ++ last) from (omega arith)

    pub covered : c.start ≤ t → t < c.end → look f (unjoined v gap c w) t ≡ look f walked t
    unfolding unjoined look
    covered a b =
        keep_late f t w.start (min w.end c.start) gap (walked ++ last) (omega arith)
        ∙ on_left f t walked last (keep_early f t (max w.start c.end) w.end gap [] (omega arith))

    walked_none : c.end ≤ t → look f walked t ≡ None
    unfolding look
    walked_none h = go (dec_le lo hi)
      where
        go : Dec (lo ≤ hi) → look f walked t ≡ None
        go (yes i) = after f t lo hi walked (omega arith) (walk_within v hi turns lo i)
        go (no i) = let z = walk_none v hi turns lo (omega arith) in rw z

    pub late : c.end ≤ t → look f (unjoined v gap c w) t ≡ Some (f gap)
    unfolding unjoined
    late h =
        keep_late f t w.start (min w.end c.start) gap (walked ++ last) (omega arith)
        ∙ on_right f t walked last (walked_none h)
        ∙ keep_in f t (max w.start c.end) w.end gap [] (omega arith) to

module _ {A : Type 0} (B : Body A) (v : Venue A) (gap : A) (c w : Part)
    (merges : (a b : A) → B.mark (B.merge a b) ≡ B.mark a) (covers : c.start < c.end) (opens : w.start < w.end) where
  -- for every window
  pub shape : Within w.start w.end (timeline B v gap c w) × Apart B (timeline B v gap c w)
  unfolding timeline
  shape = (
    joined_within B w.start w.end (unjoined v gap c w) (unjoined_within v gap c w covers opens),
    joined_apart B merges (unjoined v gap c w),
  )

  -- joining changes neither phase nor evidence
  pub unchanged : (t : ℕ) → segment_at B (timeline B v gap c w) t ≡ segment_at B (unjoined v gap c w) t
  unfolding timeline
  unchanged t = joined_look B merges w.start w.end t (unjoined v gap c w) (unjoined_within v gap c w covers opens)

-- a venue without data: one unknown span, the window
module _ {A : Type 0} (B : Body A) (gap : A) (w : Part) (lacks : B.mark gap ≡ unknown) (opens : w.start < w.end) where
  pub blank_shape : Within w.start w.end (blank gap w)
  unfolding blank
  blank_shape = keep_within w.start w.end w.end w.start w.end gap [] (omega arith) (omega arith) (omega arith) (omega arith)

  pub blank_unknown : (t : ℕ) → w.start ≤ t → t < w.end → segment_at B (blank gap w) t ≡ Some unknown
  unfolding blank
  blank_unknown t a b = keep_in B.mark t w.start w.end gap [] a b ∙ ap Some lacks
