-- A date's boundaries, by their place: what each is, the spans from each on, and that they stand near each other. Assumes nothing.
use mathlib.Core.Path.{◌≡◌, refl, ap}
use mathlib.Core.List.{List, [], ◌∷◌, map}
use Rattle.std.specs.Prelude.{None}
use Prim.Native.Nat.{ℕ, zero, suc, ◌≤◌, ◌<◌, max}
use native.Mathlib.Nat.{not-suc-le-zero, le_of_suc-le-suc}
use native.Mathlib.Omega.{arith}
use lib.ListN.{length, get_or, drop}
use lib.Seq.{drop-length}
use Rattle.records.specs.Records.{Point, Rule}
use Rattle.venue.specs.Reading as Reading
use Rattle.zone.specs.Zone.{Zone}
use Rattle.spans.specs.Spans.{Span, Within}
use Rattle.spans.specs.Timeline.{Edge, Venue, raised, between, cut, of_points}
use Rattle.spans.proofs.Walking.{cut_within}
use Rattle.day.specs.Days.{Held, venue_by}
use Rattle.walk.specs.Walking.{edges_from, edges, rule_edges, edge_instants, spans_from}

abbrev pub nowhere : Edge
nowhere = record { date = 0; time = 0; at = 0 }

abbrev pub instants : List Edge → List ℕ
instants es = map (λ (e : Edge). e.at) es

-- ---- the boundaries from a first point on

module _ {A : Type 0} (v : Venue A) (d : ℕ) where
  -- raised to m
  abbrev on : ℕ → Point → List Point → List Edge
  on m p ps = edges_from v (raised v m d p.time) ps

  on_length : (m : ℕ) (p : Point) (ps : List Point) → length (instants (on m p ps)) ≡ suc (suc (length ps))
  unfolding edges_from
  on_length m p [] = refl
  on_length m p (q ∷ qs) = ap suc (on_length (max m (v.conv d p.time)) q qs)

  on_next : (m : ℕ) (p : Point) (ps : List Point) (i : ℕ) → i < suc (length ps)
      → get_or (instants (on m p ps)) i 0 ≡ max (get_or (m ∷ instants (on m p ps)) i 0) (v.conv d (get_or (p ∷ ps) i Reading.midnight).time)
  unfolding edges_from
  on_next m p [] zero h = refl
  on_next m p [] (suc i) h = absurd (not-suc-le-zero (le_of_suc-le-suc h))
  on_next m p (q ∷ qs) zero h = refl
  on_next m p (q ∷ qs) (suc i) h = on_next (max m (v.conv d p.time)) q qs i (le_of_suc-le-suc h)

  on_last : (m : ℕ) (p : Point) (ps : List Point)
      → get_or (instants (on m p ps)) (suc (length ps)) 0 ≡ max (get_or (instants (on m p ps)) (length ps) 0) (v.conv (suc d) 0)
  unfolding edges_from
  on_last m p [] = refl
  on_last m p (q ∷ qs) = on_last (max m (v.conv d p.time)) q qs

  on_edge : (m : ℕ) (p : Point) (ps : List Point) (i : ℕ) → i < suc (length ps)
      → get_or (on m p ps) i nowhere ≡ record { date = d; time = (get_or (p ∷ ps) i Reading.midnight).time; at = get_or (instants (on m p ps)) i 0 }
  unfolding edges_from
  on_edge m p [] zero h = refl
  on_edge m p [] (suc i) h = absurd (not-suc-le-zero (le_of_suc-le-suc h))
  on_edge m p (q ∷ qs) zero h = refl
  on_edge m p (q ∷ qs) (suc i) h = on_edge (max m (v.conv d p.time)) q qs i (le_of_suc-le-suc h)

  on_end : (m : ℕ) (p : Point) (ps : List Point)
      → get_or (on m p ps) (suc (length ps)) nowhere ≡ record { date = suc d; time = 0; at = get_or (instants (on m p ps)) (suc (length ps)) 0 }
  unfolding edges_from
  on_end m p [] = refl
  on_end m p (q ∷ qs) = on_end (max m (v.conv d p.time)) q qs

module _ (z : Zone) (r : Rule) (d : ℕ) where
  abbrev v : Venue Held
  v = venue_by z (λ x. None)

  on_spans : (m : ℕ) (p : Point) (ps : List Point) (k : ℕ) → k < suc (length ps)
      → spans_from z r (drop k (on v d m p ps)) (drop k (p ∷ ps))
      ≡ between v r (get_or (on v d m p ps) k nowhere) (get_or (p ∷ ps) k Reading.midnight).phase (get_or (on v d m p ps) (suc k) nowhere)
      (spans_from z r (drop (suc k) (on v d m p ps)) (drop (suc k) (p ∷ ps)))
  unfolding edges_from cut
  on_spans m p [] zero h = refl
  on_spans m p (q ∷ []) zero h = refl
  on_spans m p (q ∷ o ∷ os) zero h = refl
  on_spans m p [] (suc k) h = absurd (not-suc-le-zero (le_of_suc-le-suc h))
  on_spans m p (q ∷ qs) (suc k) h = on_spans (max m (v.conv d p.time)) q qs k (le_of_suc-le-suc h)

  on_within : (m : ℕ) (p : Point) (ps : List Point) (k : ℕ) → k ≤ suc (length ps)
      → (b : ℕ) × Within (get_or (instants (on v d m p ps)) k 0) b (spans_from z r (drop k (on v d m p ps)) (drop k (p ∷ ps)))
  unfolding edges_from
  on_within m p [] zero h = cut_within v r (raised v m d p.time) p.phase []
  on_within m p (q ∷ qs) zero h = cut_within v r (raised v m d p.time) p.phase (q ∷ qs)
  on_within m p [] (suc zero) h = (max (max m (v.conv d p.time)) (v.conv (suc d) 0), omega arith)
  on_within m p [] (suc (suc k)) h = absurd (not-suc-le-zero (le_of_suc-le-suc h))
  on_within m p (q ∷ qs) (suc k) h = on_within (max m (v.conv d p.time)) q qs k (le_of_suc-le-suc h)

  -- ---- the boundaries of a rule's date, and the spans from the k-th on

  abbrev pub left : ℕ → List (Span Held)
  left k = spans_from z r (drop k (rule_edges z r d)) (drop k r.points)

  abbrev pub edge_at : ℕ → Edge
  edge_at k = get_or (rule_edges z r d) k nowhere

  abbrev pub instant_at : ℕ → ℕ
  instant_at k = get_or (edge_instants z r d) k 0

  -- the one before the k-th, 0 before the first
  abbrev pub before : ℕ → ℕ
  before k = get_or (0 ∷ edge_instants z r d) k 0

  abbrev pub point_at : ℕ → Point
  point_at k = get_or r.points k Reading.midnight

  pub edges_length : 1 ≤ length r.points → length (edge_instants z r d) ≡ suc (length r.points)
  edges_length h = go r.points h
    where
      go : (ps : List Point) → 1 ≤ length ps → length (instants (edges v d ps)) ≡ suc (length ps)
      go [] l = absurd (not-suc-le-zero l)
      go (p ∷ ps) l = on_length v d 0 p ps

  pub instant_next : (i : ℕ) → i < length r.points → instant_at i ≡ max (before i) (v.conv d (point_at i).time)
  instant_next i h = go r.points h
    where
      go : (ps : List Point) → i < length ps
          → get_or (instants (edges v d ps)) i 0 ≡ max (get_or (0 ∷ instants (edges v d ps)) i 0) (v.conv d (get_or ps i Reading.midnight).time)
      go [] l = absurd (not-suc-le-zero l)
      go (p ∷ ps) l = on_next v d 0 p ps i l

  pub instant_last : 1 ≤ length r.points → instant_at (length r.points) ≡ max (before (length r.points)) (v.conv (suc d) 0)
  instant_last h = go r.points h
    where
      go : (ps : List Point) → 1 ≤ length ps
          → get_or (instants (edges v d ps)) (length ps) 0 ≡ max (get_or (0 ∷ instants (edges v d ps)) (length ps) 0) (v.conv (suc d) 0)
      go [] l = absurd (not-suc-le-zero l)
      go (p ∷ ps) l = on_last v d 0 p ps

  pub edge_is : (i : ℕ) → i < length r.points → edge_at i ≡ record { date = d; time = (point_at i).time; at = instant_at i }
  edge_is i h = go r.points h
    where
      go : (ps : List Point) → i < length ps
          → get_or (edges v d ps) i nowhere ≡ record { date = d; time = (get_or ps i Reading.midnight).time; at = get_or (instants (edges v d ps)) i 0 }
      go [] l = absurd (not-suc-le-zero l)
      go (p ∷ ps) l = on_edge v d 0 p ps i l

  pub edge_end : 1 ≤ length r.points → edge_at (length r.points) ≡ record { date = suc d; time = 0; at = instant_at (length r.points) }
  edge_end h = go r.points h
    where
      go : (ps : List Point) → 1 ≤ length ps
          → get_or (edges v d ps) (length ps) nowhere ≡ record { date = suc d; time = 0; at = get_or (instants (edges v d ps)) (length ps) 0 }
      go [] l = absurd (not-suc-le-zero l)
      go (p ∷ ps) l = on_end v d 0 p ps

  pub left_all : of_points v r d r.points ≡ left 0
  unfolding edges_from
  left_all = go r.points
    where
      go : (ps : List Point) → of_points v r d ps ≡ spans_from z r (edges v d ps) ps
      go [] = refl
      go (p ∷ []) = refl
      go (p ∷ q ∷ qs) = refl

  -- one span, and those behind it
  pub left_one : (k : ℕ) → k < length r.points → left k ≡ between v r (edge_at k) (point_at k).phase (edge_at (suc k)) (left (suc k))
  left_one k h = go r.points h
    where
      go : (ps : List Point) → k < length ps
          → spans_from z r (drop k (edges v d ps)) (drop k ps)
          ≡ between v r (get_or (edges v d ps) k nowhere) (get_or ps k Reading.midnight).phase (get_or (edges v d ps) (suc k) nowhere)
          (spans_from z r (drop (suc k) (edges v d ps)) (drop (suc k) ps))
      go [] l = absurd (not-suc-le-zero l)
      go (p ∷ ps) l = on_spans 0 p ps k l

  pub left_within : (k : ℕ) → 1 ≤ length r.points → k ≤ length r.points → (b : ℕ) × Within (instant_at k) b (left k)
  left_within k h l = go r.points h l
    where
      go : (ps : List Point) → 1 ≤ length ps → k ≤ length ps
          → (b : ℕ) × Within (get_or (instants (edges v d ps)) k 0) b (spans_from z r (drop k (edges v d ps)) (drop k ps))
      go [] i j = absurd (not-suc-le-zero i)
      go (p ∷ ps) i j = on_within 0 p ps k j

  pub left_none : left (length r.points) ≡ []
  left_none = go (drop (length r.points) (rule_edges z r d)) (drop (length r.points) r.points) (drop-length r.points)
    where
      go : (es : List Edge) (ps : List Point) → ps ≡ [] → spans_from z r es ps ≡ []
      go [] ps e = refl
      go (e ∷ es) [] q = refl
      go (e ∷ es) (p ∷ ps) q = let n : ◌≡◌ {A = ℕ} 0 1 = cc in absurd (omega arith)
