-- A date's boundaries, one after the other, and the spans between them. Assumes nothing.
use mathlib.Core.Path.{◌≡◌, refl, sym, ap, ap₂, ◌∙◌, subst}
use mathlib.Core.Bool.{Bool, true, false, cond, ◌&&◌}
use mathlib.Core.List.{List, [], ◌∷◌}
use Rattle.std.specs.Prelude.{Option, None, Some}
use Prim.Native.Nat.{ℕ, zero, suc, ◌+◌, ◌-◌, ◌≤◌, ◌<◌, max}
use native.Mathlib.Nat.{not-suc-le-zero, le_of_suc-le-suc}
use native.Mathlib.Decide.{dec_lt, ℕ_discrete}
use native.Mathlib.Omega.{arith}
use borrow.Author.Tests.{lt-ltb, le-ltb}
use lib.Dec.{ltb}
use lib.ListN.{length, get_or, set, drop, drop_of_length-le, length-set}
use lib.Seq.{drop-cons, drop-length}
use Rattle.zone.specs.Zone.{Zone, resolve}
use Rattle.zone.specs.Units.{nearest_reading, reading_at}
use Rattle.zone.specs.Answers.{taken, uncertain, boundary_at}
use Rattle.zone.specs.declared.Boundary.{Boundary}
use Rattle.zone.specs.declared.Uncertainty.{Uncertainty}
use Rattle.zone.specs.declared.Uncertainty.TheVariants.{Exact}
use Rattle.records.specs.Records.{Point, Rule}
use Rattle.records.specs.Limits.{base}
use Rattle.venue.specs.Reading.{published, midnight}
use Rattle.spans.specs.Spans.{Span, keep}
use Rattle.spans.specs.Timeline.{Edge, Venue, raised, between, cut, of_points}
use Rattle.day.specs.Days.{Held, boundary_of, venue_by, after}

-- ---- an array of boundaries

abbrev pub nowhere : Boundary
nowhere = record { at = record { 0 = 0 }; uncertainty = Exact }

abbrev pub at : List Boundary → ℕ → Boundary
at a i = get_or a i nowhere

pub set_here : (a : List Boundary) (i : ℕ) (b : Boundary) → i < length a → at (set a i b) i ≡ b
set_here [] i b h = absurd (not-suc-le-zero h)
set_here (x ∷ a) zero b h = refl
set_here (x ∷ a) (suc i) b h = set_here a i b (le_of_suc-le-suc h)

pub set_other : (a : List Boundary) (i j : ℕ) (b : Boundary) → (j ≡ i → ⊥) → at (set a i b) j ≡ at a j
set_other [] i j b n = refl
set_other (x ∷ a) zero zero b n = absurd (n refl)
set_other (x ∷ a) zero (suc j) b n = refl
set_other (x ∷ a) (suc i) zero b n = refl
set_other (x ∷ a) (suc i) (suc j) b n = set_other a i j b (λ e. n (ap suc e))

-- ---- the boundaries of a date

-- not earlier than m
abbrev pub raise : ℕ → Boundary → Boundary
raise m own = record { at = record { 0 = max m own.at.0 }; uncertainty = own.uncertainty }

-- there is something between two boundaries, and the second stands after t
abbrev pub past : ℕ → Boundary → Boundary → Bool
past t s e = ltb s.at.0 e.at.0 && ltb t e.at.0

-- a converted time
pub converted : (z : Zone) (d : ℕ) {x y : ℕ} {u w : Uncertainty} {b : Boundary} → b ≡ boundary_at z d x u → x ≡ y → u ≡ w → b ≡ boundary_at z d y w
converted z d e p q = e ∙ ap₂ (boundary_at z d) p q

module _ (z : Zone) (r : Rule) (d : ℕ) where
  abbrev pub v : Venue Held
  v = venue_by z (λ x. None)

  abbrev pub time_of : ℕ → ℕ
  time_of i = (get_or r.points i midnight).time

  abbrev pub phase_of : ℕ → ℕ
  phase_of i = (get_or r.points i midnight).phase

  unfoldable pub edge : ℕ → Edge
  edge zero = raised v 0 d (time_of 0)
  edge (suc i) = raised v (edge i).at d (time_of (suc i))

  edge_date : (i : ℕ) → (edge i).date ≡ d
  unfolding edge
  edge_date zero = refl
  edge_date (suc i) = refl

  abbrev pub last : ℕ → Edge
  last i = raised v (edge i).at (suc d) 0

  -- what follows the point i, of n
  abbrev pub following : ℕ → ℕ → Edge
  following n i = cond (ltb (suc i) n) (edge (suc i)) (last i)

  -- the boundaries as they are stored
  pub own_first : boundary_at z d (time_of 0) (published r.uncertainty) ≡ boundary_of z r (edge 0)
  unfolding edge
  own_first =
      let t = taken (resolve z (nearest_reading (reading_at d (time_of 0)))) in
      let e : t ≡ max 0 t = omega arith in
      ap (λ (i : ℕ). record { at = record { 0 = i }; uncertainty = uncertain (resolve z (nearest_reading (reading_at d (time_of 0)))) (published r.uncertainty) }) e

  pub own_next : (i : ℕ) → raise (edge i).at (boundary_at z d (time_of (suc i)) (published r.uncertainty)) ≡ boundary_of z r (edge (suc i))
  unfolding edge
  own_next i = refl

  pub own_last : (i : ℕ) → raise (edge i).at (boundary_at z (suc d) 0 (published r.uncertainty)) ≡ boundary_of z r (last i)
  own_last i = refl

  -- the first n of them stand in an array
  pub record EdgesFilled (a : List Boundary) (n : ℕ) : Type 0 where
    pub long : length a ≡ suc base.points
    pub some_in : 1 ≤ n
    pub each : (j : ℕ) → j < n → at a j ≡ boundary_of z r (edge j)

  pub filled_first : (a : List Boundary) → length a ≡ suc base.points → at a 0 ≡ boundary_at z d (time_of 0) (published r.uncertainty) → EdgesFilled a 1
  filled_first a l e = record { long = l; some_in = omega arith; each = λ j h. let q : j ≡ 0 = omega arith in rw q (e ∙ own_first) }

  pub filled_next : (a : List Boundary) (n : ℕ) (b y : Boundary) → EdgesFilled a n → n < suc base.points → y ≡ boundary_at z d (time_of n) (published r.uncertainty)
      → b ≡ raise (at a (n - 1)).at.0 y → EdgesFilled (set a n b) (n + 1)
  filled_next a n b y f h q e =
      record {
        long = length-set a n b ∙ f.long;
        some_in = omega arith;
        each = λ j l. go j l (ℕ_discrete j n);
      }
    where
      stored : (l : ℕ) → n ≡ suc l → b ≡ boundary_of z r (edge n)
      stored l i =
          let k : n - 1 ≡ l = omega arith in
          e
          ∙ ap₂ raise (ap (λ (x : Boundary). x.at.0) (ap (at a) k ∙ f.each l (omega arith))) (q ∙ ap (λ (c : ℕ). boundary_at z d (time_of c) (published r.uncertainty)) i)
          ∙ own_next l
          ∙ ap (λ (c : ℕ). boundary_of z r (edge c)) (sym i)

      go : (j : ℕ) → j < n + 1 → Dec (j ≡ n) → at (set a n b) j ≡ boundary_of z r (edge j)
      go j l (yes i) = rw i (set_here a n b (omega (arith, f.long)) ∙ stored (n - 1) (omega (arith, f.some_in)))
      go j l (no i) = set_other a n j b i ∙ f.each j (omega arith)

  -- and behind them all the next midnight
  pub record Ended (a : List Boundary) : Type 0 where
    pub filled : EdgesFilled a (length r.points)
    pub end : at a (length r.points) ≡ boundary_of z r (last (length r.points - 1))

  pub ended : (a : List Boundary) (i n : ℕ) (b y : Boundary) → EdgesFilled a i → i ≡ n → n ≡ length r.points → n ≤ base.points
      → y ≡ boundary_at z (suc d) 0 (published r.uncertainty) → b ≡ raise (at a (n - 1)).at.0 y → Ended (set a n b)
  ended a i n b y f j k h q e =
      record {
        filled =
            subst (EdgesFilled (set a n b)) k
            (record {
              long = length-set a n b ∙ f.long;
              some_in = omega (arith, f.some_in);
              each = λ m l. set_other a n m b (λ e. omega arith) ∙ f.each m (omega arith);
            });
        end =
            subst (λ (m : ℕ). at (set a n b) m ≡ boundary_of z r (last (m - 1))) k
            (set_here a n b (omega (arith, f.long)) ∙ e
            ∙ ap₂ raise (ap (λ (x : Boundary). x.at.0) (f.each (n - 1) (omega (arith, f.some_in)))) q
            ∙ own_last (n - 1));
      }

  -- ---- the spans from the point k on

  abbrev pub left_by : ℕ → List Point → List (Span Held)
  left_by k [] = []
  left_by k (p ∷ ps) = cut v r (edge k) p.phase ps

  abbrev pub left : ℕ → List (Span Held)
  left k = left_by k (drop k r.points)

  pub left_all : of_points v r d r.points ≡ left 0
  unfolding edge
  left_all = go r.points refl
    where
      go : (ps : List Point) → r.points ≡ ps → of_points v r d ps ≡ left_by 0 ps
      go [] e = refl
      go (p ∷ ps) e = ap (λ (x : ℕ). cut v r (raised v 0 d x) p.phase ps) (sym (ap (λ (l : List Point). (get_or l 0 midnight).time) e))

  after_keep : (t a b : ℕ) (x : Held) (rest : List (Span Held)) → after t (keep a b x rest) ≡ cond (ltb a b && ltb t b) (Some x) (after t rest)
  unfolding after keep
  after_keep t a b x rest = go (ltb a b)
    where
      go : (q : Bool) → after t (cond q (record { from = a; to = b; body = x } ∷ rest) rest) ≡ cond (q && ltb t b) (Some x) (after t rest)
      go true = refl
      go false = refl

  abbrev pub body_of : ℕ → ℕ → Held
  body_of n k = record { start = boundary_of z r (edge k); end = boundary_of z r (following n k); phase = phase_of k; rule = r }

  -- the span from the point k to an edge, if past t, or the rest
  abbrev span_to : ℕ → ℕ → Edge → Option Held → Option Held
  span_to t k e rest =
      cond (past t (boundary_of z r (edge k)) (boundary_of z r e)) (Some (record { start = boundary_of z r (edge k); end = boundary_of z r e; phase = phase_of k; rule = r })) rest

  step : (t k : ℕ) (e : Edge) (rest : List (Span Held)) → after t (between v r (edge k) (phase_of k) e rest) ≡ span_to t k e (after t rest)
  step t k e rest = after_keep t (edge k).at e.at (v.body r (edge k) (phase_of k) e) rest

  abbrev result : ℕ → ℕ → Option Held → Option Held
  result t k rest = span_to t k (following (length r.points) k) rest

  -- to the next point
  inner : (t k : ℕ) → suc k < length r.points
      → after t (cut v r (edge k) (phase_of k) (drop (suc k) r.points)) ≡ result t k (after t (left (suc k)))
  unfolding cut edge
  inner t k h =
      let q = get_or r.points (suc k) midnight in
      let qs = drop (suc (suc k)) r.points in
      let c = drop-cons r.points (suc k) midnight h in
      ap (λ (l : List Point). after t (cut v r (edge k) (phase_of k) l)) c
      ∙ step t k (raised v (edge k).at (edge k).date q.time) (cut v r (raised v (edge k).at (edge k).date q.time) q.phase qs)
      ∙ ap (λ (x : ℕ). let e = raised v (edge k).at x q.time in span_to t k e (after t (cut v r e q.phase qs))) (edge_date k)
      ∙ ap (λ (l : List Point). span_to t k (edge (suc k)) (after t (left_by (suc k) l))) (sym c)
      ∙ ap (λ (b : Bool). span_to t k (cond b (edge (suc k)) (last k)) (after t (left (suc k)))) (sym (lt-ltb (suc k) (length r.points) h))

  -- to the next midnight
  outer : (t k : ℕ) → length r.points ≤ suc k
      → after t (cut v r (edge k) (phase_of k) (drop (suc k) r.points)) ≡ result t k (after t (left (suc k)))
  unfolding cut
  outer t k h =
      let c = drop_of_length-le r.points h in
      ap (λ (l : List Point). after t (cut v r (edge k) (phase_of k) l)) c
      ∙ step t k (raised v (edge k).at (suc (edge k).date) 0) []
      ∙ ap (λ (x : ℕ). span_to t k (raised v (edge k).at (suc x) 0) (after t [])) (edge_date k)
      ∙ ap (λ (l : List Point). span_to t k (last k) (after t (left_by (suc k) l))) (sym c)
      ∙ ap (λ (b : Bool). span_to t k (cond b (edge (suc k)) (last k)) (after t (left (suc k)))) (sym (le-ltb (suc k) (length r.points) h))

  one_left : (t k : ℕ) → k < length r.points → after t (left k) ≡ result t k (after t (left (suc k)))
  one_left t k h = ap (λ (l : List Point). after t (left_by k l)) (drop-cons r.points k midnight h) ∙ go (dec_lt (suc k) (length r.points))
    where
      go : Dec (suc k < length r.points) → after t (cut v r (edge k) (phase_of k) (drop (suc k) r.points)) ≡ result t k (after t (left (suc k)))
      go (yes l) = inner t k l
      go (no l) = outer t k (omega arith)

  -- ---- what a scan of the array finds

  module _ (a : List Boundary) (t : ℕ) (w : Ended a) where
    start_is : (k : ℕ) → k < length r.points → at a k ≡ boundary_of z r (edge k)
    start_is k h = w.filled.each k h

    end_is : (k : ℕ) → k < length r.points → at a (k + 1) ≡ boundary_of z r (following (length r.points) k)
    end_is k h = go (dec_lt (suc k) (length r.points))
      where
        q : k + 1 ≡ suc k
        q = omega arith

        go : Dec (suc k < length r.points) → at a (k + 1) ≡ boundary_of z r (following (length r.points) k)
        go (yes l) = ap (at a) q ∙ start_is (suc k) l ∙ ap (λ (b : Bool). boundary_of z r (cond b (edge (suc k)) (last k))) (sym (lt-ltb (suc k) (length r.points) l))
        go (no l) =
            let i : length r.points ≡ suc k = omega arith in
            let j : length r.points - 1 ≡ k = omega arith in
            ap (at a) (q ∙ sym i) ∙ w.end ∙ ap (λ (m : ℕ). boundary_of z r (last m)) j
            ∙ ap (λ (b : Bool). boundary_of z r (cond b (edge (suc k)) (last k))) (sym (le-ltb (suc k) (length r.points) (omega arith)))

    abbrev pub tested : ℕ → Bool
    tested k = past t (at a k) (at a (k + 1))

    tested_is : (k : ℕ) → k < length r.points → tested k ≡ past t (boundary_of z r (edge k)) (boundary_of z r (following (length r.points) k))
    tested_is k h = ap₂ (past t) (start_is k h) (end_is k h)

    -- the first k passed no test
    skipped : (k : ℕ) → k ≤ length r.points → ((j : ℕ) → j < k → tested j ≡ false) → after t (of_points v r d r.points) ≡ after t (left k)
    skipped zero h f = ap (after t) left_all
    skipped (suc k) h f =
        let e = sym (tested_is k (omega arith)) ∙ f k (omega arith) in
        skipped k (omega arith) (λ j l. f j (omega arith)) ∙ one_left t k (omega arith)
        ∙ ap (λ (b : Bool). cond b (Some (body_of (length r.points) k)) (after t (left (suc k)))) e

    pub scan_found : (k p : ℕ) → k < length r.points → ((j : ℕ) → j < k → tested j ≡ false) → tested k ≡ true → p ≡ phase_of k
        → Some (record { start = at a k; end = at a (k + 1); phase = p; rule = r }) ≡ after t (of_points v r d r.points)
    scan_found k p h f e q =
        ap (λ (i : ℕ). Some (record { start = at a k; end = at a (k + 1); phase = i; rule = r })) q
        ∙ sym
        (skipped k (omega arith) f ∙ one_left t k h
        ∙ ap (λ (b : Bool). cond b (Some (body_of (length r.points) k)) (after t (left (suc k)))) (sym (tested_is k h) ∙ e)
        ∙ ap₂ (λ (x y : Boundary). Some (record { start = x; end = y; phase = phase_of k; rule = r })) (sym (start_is k h)) (sym (end_is k h)))

    pub scan_none : ((j : ℕ) → j < length r.points → tested j ≡ false) → None ≡ after t (of_points v r d r.points)
    unfolding after
    scan_none f =
        sym
        (skipped (length r.points) (omega arith) f
        ∙ ap (λ (l : List Point). after t (left_by (length r.points) l)) (drop-length r.points))
