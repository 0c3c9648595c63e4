-- The transitions that have passed, as the code finds them, and what it makes of them. Assumes nothing.
use Rattle.std.proofs.Common.{◌≡◌, ℕ, zero, suc, ◌+◌, ◌-◌, ◌*◌, ◌^◌, ◌<◌, ◌≤◌, List, [], ◌∷◌, length, get_or, sym, refl, ◌∙◌, ap₂, ⊎_elim, le_refl, le_of_suc-le-suc, not-suc-le-zero, eq-or-lt_of_le, arith}
use lib.ListN.{get_or-eq_default}
use Rattle.zone.specs.Units.{most_offset, most_offset_ns}
use Rattle.zone.specs.Zone.{Zone, zone_of, offset_at, instant_by, resolve}
use Rattle.zone.specs.Answers.{Each, Spaced, spacing_ns, Valid}
use Rattle.zone.specs.Private.{Between, Passed, around}
use Rattle.zone.specs.declared.Resolution.TheVariants.{Clear}
use Rattle.zone.proofs.Offsets.{offset_passed}
use Rattle.zone.proofs.Readings.{resolve_around, resolve_steady}

-- within a list it does not matter what stands for what is past the end
pub get_d_within : (l : List ℕ) (k d e : ℕ) → k < length l → get_or l k d ≡ get_or l k e
get_d_within [] k d e h = absurd (not-suc-le-zero h)
get_d_within (x ∷ l) zero d e h = refl
get_d_within (x ∷ l) (suc k) d e h = get_d_within l k d e (le_of_suc-le-suc h)

each_at : (lo hi : ℕ) (l : List ℕ) (k : ℕ) → Each lo hi l → k < length l → (lo ≤ get_or l k 0) × (get_or l k 0 ≤ hi)
each_at lo hi [] k e h = absurd (not-suc-le-zero h)
each_at lo hi (x ∷ l) zero e h = (e.0, e.1)
each_at lo hi (x ∷ l) (suc k) e h = each_at lo hi l k e.2 (le_of_suc-le-suc h)

pub offset_in : (first : ℕ) (ats os : List ℕ) (k : ℕ) → Valid first ats os → k ≤ length ats → get_or (first ∷ os) k 0 ≤ 2 * most_offset
offset_in first ats os zero v h = v.first_in
offset_in first ats os (suc k) v h = (each_at 0 (2 * most_offset) os k v.offsets_in (omega (arith, v.alike))).1

spaced_at : (l : List ℕ) (k : ℕ) → Spaced l → suc k < length l → get_or l k 0 + spacing_ns ≤ get_or l (suc k) 0
spaced_at [] k s h = absurd (not-suc-le-zero h)
spaced_at (a ∷ []) k s h = absurd (not-suc-le-zero (le_of_suc-le-suc h))
spaced_at (a ∷ b ∷ l) zero s h = s.0
spaced_at (a ∷ b ∷ l) (suc k) s h = spaced_at (b ∷ l) k s.1 (le_of_suc-le-suc h)

-- ---- between which numbers it lies, as the code tries it

pub next_far : (ats : List ℕ) (k b : ℕ) → b < get_or ats k 18446744073709551615 → b < get_or ats k (2 ^ 64)
next_far [] k b h = omega arith
next_far (x ∷ ats) zero b h = h
next_far (x ∷ ats) (suc k) b h = next_far ats k b h

pub between_all : (ats : List ℕ) (t : ℕ) → t < 2 ^ 64 → Between ats t 0 (length ats)
between_all ats t h =
    let past = get_or-eq_default ats (2 ^ 64) (le_refl (length ats)) in
    record { order = omega arith; most = omega arith; last = omega arith; next = rw past h }

-- ---- the same number has passed until the next transition, and one more from there on

module _ (ats : List ℕ) (u k : ℕ) (p : Passed ats u k) where
  passed_still : (t : ℕ) → u ≤ t → t < get_or ats k (2 ^ 64) → Passed ats t k
  passed_still t h l = record { most = p.most; last = omega (arith, p.last); next = l }

  passed_next : (t : ℕ) → Spaced ats → k < length ats → get_or ats k 0 ≤ t → t < get_or ats k 0 + spacing_ns → t < 2 ^ 64 → Passed ats t (suc k)
  passed_next t s b l m f = record { most = b; last = l; next = ⊎_elim (λ e. at_end e) (λ n. before_end n) (eq-or-lt_of_le b) }
    where
      at_end : suc k ≡ length ats → t < get_or ats (suc k) (2 ^ 64)
      at_end e = let z = get_or-eq_default ats (2 ^ 64) {n = suc k} (omega arith) in rw z f

      before_end : suc k < length ats → t < get_or ats (suc k) (2 ^ 64)
      before_end n = omega (arith, spaced_at ats k s n, get_d_within ats (suc k) (2 ^ 64) 0 n)

-- ---- a reading x, where k transitions have passed 57,600 s before it

module _ (first : ℕ) (ats os : List ℕ) (ok : Valid first ats os) (x k : ℕ) (low : most_offset_ns ≤ x) (p : Passed ats (x - most_offset_ns) k) where
  abbrev z : Zone
  z = zone_of first ats os

  abbrev o : ℕ
  o = get_or (first ∷ os) k 0

  offset_by : (t j : ℕ) → Passed ats t j → offset_at z t ≡ get_or (first ∷ os) j 0
  offset_by t j q = offset_passed t first j ats os ok.spaced ok.alike q

  -- the next one stands too late to matter
  pub none_near : x + most_offset_ns < get_or ats k (2 ^ 64) → resolve z x ≡ Clear (record { 0 = instant_by o x })
  none_near h =
      resolve_steady first ats os ok x low o
      (λ t a b. offset_by t k (passed_still ats (x - most_offset_ns) k p t a (omega arith)))

  -- the next one stands near
  pub one_near : x + most_offset_ns < 2 ^ 64 → k < length ats → get_or ats k 0 ≤ x + most_offset_ns
      → resolve z x ≡ around (get_or ats k 0) (instant_by o x) (instant_by (get_or os k 0) x)
  one_near f h l =
      let at = get_or ats k 0 in
      let u = x - most_offset_ns in
      let v = x + most_offset_ns in
      let same = get_d_within ats k (2 ^ 64) 0 h in
      let was : (t : ℕ) → u ≤ t → t < at → offset_at z t ≡ o = λ t a m. offset_by t k (passed_still ats u k p t a (omega arith)) in
      let is : (t : ℕ) → t ≤ v → at ≤ t → offset_at z t ≡ get_or os k 0 =
      λ t b m. offset_by t (suc k) (passed_next ats u k p t ok.spaced h m (omega (arith, p.next)) (omega arith)) in
      let i = was u (omega arith) (omega (arith, p.next)) in
      let j = is v (omega arith) l in
      resolve_around first ats os ok x low at
      (record { until = λ t a b m. was t a m ∙ sym i; since = λ t a b m. is t b m ∙ sym j })
      ∙ ap₂ (λ (q r : ℕ). around at (instant_by q x) (instant_by r x)) i j
