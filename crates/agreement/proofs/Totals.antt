-- Of a plain window, the totals of a row are the numbers of its instants whose point answer has the phase, that are outside coverage, and that
-- are covered but on a date that no rule governs. Assumes nothing.
use mathlib.Core.Path.{◌≡◌, refl, ◌∙◌}
use mathlib.Core.Bool.{Bool, true, false, not, ◌&&◌}
use Rattle.std.specs.Prelude.{Option, None, Some}
use Prim.Native.Nat.{ℕ, ◌+◌, ◌-◌, ◌≤◌, ◌<◌}
use native.Mathlib.Decide.{dec_lt}
use native.Mathlib.Omega.{arith}
use borrow.Author.Tests.{le-leb, lt-ltb, lt-leb, le-ltb}
use Rattle.wire.proofs.Signs.{and_no}
use Rattle.records.specs.Records.{Rule}
use Rattle.spans.specs.Spans.{Mark, phase, unknown, Body, look}
use Rattle.spans.specs.Timeline.{Venue, Part, inside, point_at, timeline}
use Rattle.spans.specs.Totals.{is_phase, is_unknown, any_mark, total, count, shows, free}
use Rattle.spans.proofs.Shape.{shape}
use Rattle.spans.proofs.Totals.{same_count, total_count, others}
use Rattle.plain.specs.Plain.{PlainWindow}
use Rattle.agreement.specs.Agreeing.{Accepted, Covered, Agrees}
use Rattle.agreement.proofs.Agreeing.{plain}

-- what agrees shows the same phases
same_phase : {A : Type 0} (v : Venue A) (c : Part) (t p : ℕ) (l o : Option Mark) → Agrees v c t l o → shows (is_phase p) l ≡ shows (is_phase p) o
same_phase v c t p None o g =
    let e = g.not_known.1 (λ q x h. let z : ◌≡◌ {A = ℕ} 0 1 = cc in omega arith) in
    rw e
same_phase v c t p (Some unknown) o g =
    let e = g.not_known.1 (λ q x h. let z : ◌≡◌ {A = ℕ} 0 1 = cc in omega arith) in
    rw e
same_phase v c t p (Some (phase q x)) o g =
    let e = (g.known q x).0 refl in
    rw e

inside_yes : (c : Part) (t : ℕ) → Covered c t → inside c t ≡ true
inside_yes c t h = simp (le-leb c.start t h.0, lt-ltb t c.end h.1)

-- an instant is covered, or not
by_cover : {P : Type 0} (c : Part) (t : ℕ) → (Covered c t → P) → ((Covered c t → ⊥) → inside c t ≡ false → P) → P
by_cover {P} c t f g = go (dec_lt t c.start) (dec_lt t c.end)
  where
    go : Dec (t < c.start) → Dec (t < c.end) → P
    go (yes h) q = g (λ k. omega arith) (simp (lt-leb c.start t h))
    go (no h) (yes i) = f (omega arith, i)
    go (no h) (no i) = g (λ k. omega arith) (simp (le-ltb t c.end (omega arith), and_no))

module _ {A : Type 0} (v : Venue A) (c : Part) (t : ℕ) where
  same_outside : (l o : Option Mark) → Agrees v c t l o → shows is_unknown l ≡ not (inside c t)
  same_outside l o g = by_cover c t (λ h. covered l g h) (λ h e. let z = g.outside.1 h in simp (z, e))
    where
      covered : (x : Option Mark) → Agrees v c t x o → Covered c t → shows is_unknown x ≡ not (inside c t)
      covered None g' h = rw (inside_yes c t h)
      covered (Some (phase p e)) g' h = rw (inside_yes c t h)
      covered (Some unknown) g' h = absurd (g'.outside.0 refl h)

  same_hole : (l o : Option Mark) → Agrees v c t l o → not (shows any_mark l) ≡ (inside c t && free (v.governing (v.reads t)))
  same_hole l o g = by_cover c t (λ h. covered l g h (v.governing (v.reads t)) refl) (λ h e. let z = g.outside.1 h in simp (z, e))
    where
      covered : (x : Option Mark) → Agrees v c t x o → Covered c t → (r : Option Rule) → v.governing (v.reads t) ≡ r
          → not (shows any_mark x) ≡ (inside c t && free (v.governing (v.reads t)))
      covered None g' h r e = simp (inside_yes c t h, (g'.nothing.0 refl).1)
      covered (Some m) g' h None e = absurd (let y = g'.nothing.1 (h, e) in let z : ◌≡◌ {A = ℕ} 0 1 = cc in omega arith)
      covered (Some m) g' h (Some r) e = simp (inside_yes c t h, e)

module _ {A : Type 0} (B : Body A) (v : Venue A) (gap : A) (c w : Part) (ok : Accepted B v gap c) (opens : w.start < w.end) (pw : PlainWindow v w) where
  -- the row of n instants from a on, inside the window
  module _ (a n : ℕ) (from : w.start ≤ a) (to : a + n ≤ w.end) where
    pub phase_total : (p : ℕ) → total B (is_phase p) a (a + n) (timeline B v gap c w) ≡ count (λ t. shows (is_phase p) (point_at B.mark v c t)) a n
    phase_total p =
        total_count B (is_phase p) a n w.start w.end (timeline B v gap c w) (shape B v gap c w ok.merges ok.covers opens).0
        ∙ same_count (λ t. shows (is_phase p) (look B.mark (timeline B v gap c w) t)) (λ t. shows (is_phase p) (point_at B.mark v c t)) a n
        (λ t i j. same_phase v c t p (look B.mark (timeline B v gap c w) t) (point_at B.mark v c t)
        (plain B v gap c w ok opens pw t (omega arith) (omega arith)))

    pub outside_total : total B is_unknown a (a + n) (timeline B v gap c w) ≡ count (λ t. not (inside c t)) a n
    outside_total =
        total_count B is_unknown a n w.start w.end (timeline B v gap c w) (shape B v gap c w ok.merges ok.covers opens).0
        ∙ same_count (λ t. shows is_unknown (look B.mark (timeline B v gap c w) t)) (λ t. not (inside c t)) a n
        (λ t i j. same_outside v c t (look B.mark (timeline B v gap c w) t) (point_at B.mark v c t)
        (plain B v gap c w ok opens pw t (omega arith) (omega arith)))

    -- what of the row lies in no span
    pub hole_total : n - total B any_mark a (a + n) (timeline B v gap c w) ≡ count (λ t. inside c t && free (v.governing (v.reads t))) a n
    hole_total =
        let any : ℕ → Bool = λ t. shows any_mark (look B.mark (timeline B v gap c w) t) in
        let all = total_count B any_mark a n w.start w.end (timeline B v gap c w) (shape B v gap c w ok.merges ok.covers opens).0 in
        let both = others any a n in
        let last : n - total B any_mark a (a + n) (timeline B v gap c w) ≡ count (λ t. not (any t)) a n = omega arith in
        last
        ∙ same_count (λ t. not (any t)) (λ t. inside c t && free (v.governing (v.reads t))) a n
        (λ t i j. same_hole v c t (look B.mark (timeline B v gap c w) t) (point_at B.mark v c t)
        (plain B v gap c w ok opens pw t (omega arith) (omega arith)))
