-- The timeline of a plain window and the point answers agree at each of its instants. Assumes nothing.
use mathlib.Core.Path.{◌≡◌, refl, sym, ap, subst, ◌∙◌}
use Rattle.std.specs.Prelude.{Option, None, Some}
use Prim.Native.Nat.{ℕ, suc, ◌+◌, ◌-◌, ◌≤◌, ◌<◌, min, max}
use native.Mathlib.Decide.{dec_lt}
use native.Mathlib.Omega.{arith}
use borrow.Author.Tests.{le-leb, lt-ltb, lt-leb, le-ltb}
use Rattle.wire.proofs.Signs.{and_no}
use Rattle.records.specs.Records.{Rule}
use Rattle.spans.specs.Spans.{Mark, phase, unknown, Body, look, segment_at}
use Rattle.spans.specs.Timeline.{Venue, Part, midnight, spans, point_at, turns, unjoined, timeline}
use Rattle.spans.proofs.Walking.{DateFits, walk_look, date_of}
use Rattle.spans.proofs.Dates.{governed, ungoverned}
use Rattle.spans.proofs.Shape.{early, covered, late, unchanged}
use Rattle.spans.proofs.Points.{point_out, point_in}
use Rattle.plain.specs.Plain.{PlainDate, PlainWindow}
use Rattle.agreement.specs.Agreeing.{Accepted, Covered, Agrees}
use Rattle.agreement.proofs.Dates.{fits}

-- the three cases
module _ {A : Type 0} (v : Venue A) (c : Part) (t : ℕ) (l p : Option Mark) where
  agrees_out : (Covered c t → ⊥) → l ≡ Some unknown → p ≡ None → Agrees v c t l p
  agrees_out n a b =
      record {
        known = λ q e. (λ h. cc, λ h. cc);
        not_known = (λ h q e i. let z : ◌≡◌ {A = ℕ} 0 1 = cc in omega arith, λ h. b);
        outside = (λ h. n, λ h. a);
        nothing = (λ h. absurd (let z : ◌≡◌ {A = ℕ} 0 1 = cc in omega arith), λ h. absurd (n h.0));
      }

  agrees_hole : Covered c t → v.governing (v.reads t) ≡ None → l ≡ None → p ≡ None → Agrees v c t l p
  agrees_hole n g a b =
      record {
        known = λ q e. (λ h. cc, λ h. cc);
        not_known = (λ h q e i. let z : ◌≡◌ {A = ℕ} 0 1 = cc in omega arith, λ h. b);
        outside = (λ h. absurd (let z : ◌≡◌ {A = ℕ} 0 1 = cc in omega arith), λ h. absurd (h n));
        nothing = (λ h. (n, g), λ h. a);
      }

  agrees_known : Covered c t → (r : Rule) → v.governing (v.reads t) ≡ Some r → (q e : ℕ) → l ≡ Some (phase q e) → p ≡ Some (phase q e) → Agrees v c t l p
  agrees_known n r g q e a b =
      record {
        known = λ q' e'. (λ h. cc, λ h. cc);
        not_known = (λ h. absurd (let z : ◌≡◌ {A = ℕ} 0 1 = cc in omega arith), λ h. absurd (h q e a));
        outside = (λ h. absurd (let z : ◌≡◌ {A = ℕ} 0 1 = cc in omega arith), λ h. absurd (h n));
        nothing = (λ h. absurd (let z : ◌≡◌ {A = ℕ} 0 1 = cc in omega arith), λ h. absurd (let y = h.1 in let z : ◌≡◌ {A = ℕ} 0 1 = cc in omega arith));
      }

module _ {A : Type 0} (B : Body A) (v : Venue A) (gap : A) (c w : Part) (ok : Accepted B v gap c) (opens : w.start < w.end) where
  same : (t : ℕ) → segment_at B (timeline B v gap c w) t ≡ segment_at B (unjoined v gap c w) t
  same = unchanged B v gap c w ok.merges ok.covers opens

  -- in a date of the run
  module _ (pw : PlainWindow v w) (t : ℕ) (from : w.start ≤ t) (to : t < w.end)
      (d : ℕ) (low : pw.first ≤ d) (high : d < pw.first + pw.count) (begun : midnight v d ≤ t) (going : t < midnight v (suc d)) where
    fit : (e : ℕ) → PlainDate v e → DateFits v e
    fit e p = fits v e (ok.starts e) p

    run : (e : ℕ) → pw.first ≤ e → e < pw.first + pw.count → DateFits v e
    run e a b = fit e (pw.run e a b)

    -- the dates of the run with the one before and the one after
    around : (e : ℕ) → pw.first ≤ suc e → e ≤ pw.first + pw.count → DateFits v e
    around e a b = go (dec_lt e pw.first) (dec_lt e (pw.first + pw.count))
      where
        go : Dec (e < pw.first) → Dec (e < pw.first + pw.count) → DateFits v e
        go (yes h) q = let z : pw.first - 1 ≡ e = omega arith in subst (DateFits v) z (fit (pw.first - 1) pw.before)
        go (no h) (yes i) = run e (omega arith) i
        go (no h) (no i) = let z : pw.first + pw.count ≡ e = omega arith in subst (DateFits v) z (fit (pw.first + pw.count) pw.after)

    reading : v.reads t ≡ d
    reading = (run d low high).reading t begun going

    module _ (a : c.start ≤ t) (b : t < c.end) where
      -- before joining, of the whole body
      whole_shown : {C : Type 0} (f : A → C) → look f (unjoined v gap c w) t ≡ look f (spans v d) t
      whole_shown f =
          covered v gap c w ok.covers opens f t from to a b
          ∙ walk_look v f (min w.end c.end) t pw.count turns pw.first (max w.start c.start) pw.few
          run (omega (arith, pw.opens)) (omega (arith, pw.closes)) (omega arith) (omega arith)
          ∙ ap (λ (e : ℕ). look f (spans v e) t) reading

      whole_point : {C : Type 0} (f : A → C) → point_at f v c t ≡ look f (spans v d) t
      whole_point f =
          point_in v c f t (simp (le-leb c.start t a, lt-ltb t c.end b)) d (omega (arith, pw.later))
          (around (d - 1) (omega (arith, pw.later)) (omega arith)) (run d low high) (around (suc d) (omega arith) (omega arith)) begun going

      shown : segment_at B (timeline B v gap c w) t ≡ look B.mark (spans v d) t
      shown = same t ∙ whole_shown B.mark

      point : point_at B.mark v c t ≡ look B.mark (spans v d) t
      point = whole_point B.mark

      on_date_law : (o : Option Rule) → v.governing d ≡ o → Agrees v c t (segment_at B (timeline B v gap c w) t) (point_at B.mark v c t)
      on_date_law None g =
          let e = ungoverned v d B.mark t g in
          agrees_hole v c t _ _ (a, b) (ap v.governing reading ∙ g) (shown ∙ e) (point ∙ e)
      on_date_law (Some r) g =
          let k = governed v d B.mark t ok.shows r g (ok.starts d r g) begun going in
          agrees_known v c t _ _ (a, b) r (ap v.governing reading ∙ g) k.0 r.evidence (shown ∙ k.1) (point ∙ k.1)

  -- for a plain window
  pub plain : PlainWindow v w → (t : ℕ) → w.start ≤ t → t < w.end
      → Agrees v c t (segment_at B (timeline B v gap c w) t) (point_at B.mark v c t)
  plain pw t from to = go (dec_lt t c.start) (dec_lt t c.end)
    where
      go : Dec (t < c.start) → Dec (t < c.end) → Agrees v c t (segment_at B (timeline B v gap c w) t) (point_at B.mark v c t)
      go (yes h) q =
          agrees_out v c t _ _ (λ k. omega arith) (same t ∙ early v gap c w ok.covers opens B.mark t from to h ∙ ap Some ok.lacks)
          (point_out v c B.mark t (simp (lt-leb c.start t h)))
      go (no h) (no i) =
          agrees_out v c t _ _ (λ k. omega arith) (same t ∙ late v gap c w ok.covers opens B.mark t from to (omega arith) ∙ ap Some ok.lacks)
          (point_out v c B.mark t (simp (le-ltb t c.end (omega arith), and_no)))
      go (no h) (yes i) =
          let day = date_of v pw.count pw.first t (omega (arith, pw.opens)) (omega (arith, pw.closes)) in
          on_date_law pw t from to day.0 day.1 day.2 day.3 day.4 (omega arith) i (v.governing day.0) refl

  -- before joining, where coverage holds, the span that stands at t has the whole body of the point answer
  pub whole : PlainWindow v w → {C : Type 0} (f : A → C) (t : ℕ) → w.start ≤ t → t < w.end → Covered c t
      → look f (unjoined v gap c w) t ≡ point_at f v c t
  whole pw f t from to h =
      let day = date_of v pw.count pw.first t (omega (arith, pw.opens)) (omega (arith, pw.closes)) in
      whole_shown pw t from to day.0 day.1 day.2 day.3 day.4 h.0 h.1 f
      ∙ sym (whole_point pw t from to day.0 day.1 day.2 day.3 day.4 h.0 h.1 f)
