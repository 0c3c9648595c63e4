-- The first date near which the clock changes: as the code finds it, that before it the offset is one, and that near it the clock does change.
-- Assumes nothing.
use Rattle.std.proofs.Common.{◌≡◌, ℕ, zero, suc, ◌+◌, ◌-◌, ◌*◌, ◌/◌, ◌^◌, ◌<◌, ◌≤◌, min, max, true, false, not, ◌&&◌, ltb, leb, List, [], ◌∷◌, length, get_or, sym, refl, ap, ◌∙◌, arith, le-ltb, lt-ltb, le-leb}
use Rattle.std.specs.Prelude.{Option, None, Some}
use native.Mathlib.Nat.{suc_inj}
use native.Mathlib.Decide.{dec_lt, dec_le}
use borrow.Author.Tests.{lt-leb}
use Rattle.wire.proofs.Signs.{and_no}
use Rattle.calendar.specs.Answers.{first_day, last_day}
use Rattle.zone.specs.Units.{day_ns}
use Rattle.zone.specs.Zone.{changes_of, zone_of, offset_at}
use Rattle.zone.specs.Answers.{Spaced, Valid}
use Rattle.zone.specs.Private.{Passed}
use Rattle.zone.specs.Steady.{none_within, next_after, near_from, steady_until}
use Rattle.zone.proofs.Offsets.{first_least, passed_rest}
use Rattle.zone.proofs.Shifts.{past, between, none_true, stays}

-- ---- as the code finds it

-- where the next one stands, as the code reads it
abbrev stands_at : Option ℕ → ℕ
stands_at None = 18446744073709551615
stands_at (Some at) = at

next_at : (t k : ℕ) (ats : List ℕ) → Spaced ats → Passed ats t k → get_or ats k 18446744073709551615 ≡ stands_at (next_after t ats)
unfolding next_after
next_at t k [] s p = refl
next_at t zero (x ∷ ats) s p = rw (lt-ltb t x p.next)
next_at t (suc k) (x ∷ ats) s p =
    rw (le-ltb t x (omega (arith, first_least x ats k s p.most, p.last))) (next_at t k ats s.1 (passed_rest t k x ats p))

stands_later : (t : ℕ) (ats : List ℕ) → t < 18446744073709551615 → t < stands_at (next_after t ats)
unfolding next_after
stands_later t [] h = h
stands_later t (x ∷ ats) h = go (dec_lt t x) (stands_later t ats h)
  where
    go : Dec (t < x) → t < stands_at (next_after t ats) → t < stands_at (next_after t (x ∷ ats))
    go (yes l) on = rw (lt-ltb t x l) l
    go (no l) on = rw (le-ltb t x (omega arith)) on

near_read : (d : ℕ) (o : Option ℕ) → d ≤ last_day → max d (min ((stands_at o - 1) / day_ns - 1) (last_day + 1)) ≡ near_from d o
near_read d None h = omega arith
near_read d (Some at) h = refl

pub until_early : (ats : List ℕ) (d : ℕ) → d < first_day → d ≡ steady_until ats d
unfolding steady_until
until_early ats d h = simp (lt-leb first_day d h)

pub until_late : (ats : List ℕ) (d : ℕ) → last_day < d → d ≡ steady_until ats d
unfolding steady_until
until_late ats d h = simp (le-leb first_day d (omega arith), lt-leb d last_day h)

until_is : (ats : List ℕ) (d : ℕ) → first_day ≤ d → d ≤ last_day → steady_until ats d ≡ near_from d (next_after ((d - 1) * day_ns) ats)
unfolding steady_until
until_is ats d low high = simp (le-leb first_day d low, le-leb d last_day high)

module _ (ats : List ℕ) (d k : ℕ) (s : Spaced ats) (low : first_day ≤ d) (high : d ≤ last_day) (p : Passed ats ((d - 1) * day_ns) k)
    {at : ℕ} (e : at ≡ get_or ats k 18446744073709551615) where
  pub until_found : max d (min ((at - 1) / day_ns - 1) (last_day + 1)) ≡ steady_until ats d
  until_found =
      ap (λ (x : ℕ). max d (min ((x - 1) / day_ns - 1) (last_day + 1))) (e ∙ next_at ((d - 1) * day_ns) k ats s p)
      ∙ near_read d (next_after ((d - 1) * day_ns) ats) high
      ∙ sym (until_is ats d low high)

-- ---- what it means

-- the next one, if there is one, stands after b
abbrev Later : ℕ → Option ℕ → Type 0
Later b None = Unit {0}
Later b (Some at) = b < at

none_next : (a b : ℕ) (ats os : List ℕ) → Spaced ats → a < 2 ^ 64 → b < 2 ^ 64 → Later b (next_after a ats) → none_within a b (changes_of ats os) ≡ true
unfolding next_after none_within
none_next a b [] os s f g h = refl
none_next a b (x ∷ ats) [] s f g h = refl
none_next a b (x ∷ ats) (o ∷ os) s f g h = go (dec_lt a x) (none_next a b ats os s.1 f g)
  where
    go : Dec (a < x) → (Later b (next_after a ats) → none_within a b (changes_of ats os) ≡ true) → none_within a b (changes_of (x ∷ ats) (o ∷ os)) ≡ true
    go (yes l) on =
        none_true a b 0 (x ∷ ats) (o ∷ os) s (record { most = omega arith; last = omega arith; next = l }) f g (rw (lt-ltb a x l) at h)
    go (no l) on =
        past a b x (none_within a b (changes_of ats os)) (omega arith) ∙ on (rw (le-ltb a x (omega arith)) at h)

-- a date before the first near which the clock changes
module _ (ats : List ℕ) (d e : ℕ) (from : d ≤ e) (before : e < steady_until ats d) where
  far : (first_day ≤ e) × (e ≤ last_day) × Later ((e + 2) * day_ns) (next_after ((d - 1) * day_ns) ats)
  far = go (dec_lt d first_day) (dec_le d last_day)
    where
      beyond : (o : Option ℕ) → e < near_from d o → (e ≤ last_day) × Later ((e + 2) * day_ns) o
      beyond None h = (omega arith, tt)
      beyond (Some at) h = (omega arith, omega arith)

      go : Dec (d < first_day) → Dec (d ≤ last_day) → (first_day ≤ e) × (e ≤ last_day) × Later ((e + 2) * day_ns) (next_after ((d - 1) * day_ns) ats)
      go (yes h) q = absurd (omega (arith, until_early ats d h))
      go (no h) (no i) = absurd (omega (arith, until_late ats d (omega arith)))
      go (no h) (yes i) =
          let b = beyond (next_after ((d - 1) * day_ns) ats) (rw (until_is ats d (omega arith) i) at before) in
          (omega arith, b.0, b.1)

  -- is of the calendar
  pub until_in : (first_day ≤ e) × (e ≤ last_day)
  until_in = (far.0, far.1)

  -- and has one offset, from where its day before begins to where its next day ends
  pub until_steady : (first : ℕ) (os : List ℕ) → Valid first ats os → (t : ℕ) → (e - 1) * day_ns ≤ t → t ≤ (e + 2) * day_ns
      → offset_at (zone_of first ats os) t ≡ offset_at (zone_of first ats os) ((d - 1) * day_ns)
  until_steady first os ok t h i =
      let a = (d - 1) * day_ns in
      let b = (e + 2) * day_ns in
      stays first a b t (changes_of ats os) (none_next a b ats os ok.spaced (omega (arith, far.1)) (omega (arith, far.1)) far.2) (omega arith) i

-- near that one, if it is of the calendar, the clock does change
one_within : (a b c at : ℕ) (ats os : List ℕ) → length ats ≡ length os → next_after a ats ≡ Some at → b < at → at ≤ c
    → none_within b c (changes_of ats os) ≡ false
unfolding next_after none_within
one_within a b c at [] os s e h i = let z : ◌≡◌ {A = ℕ} 0 1 = cc in absurd (omega arith)
one_within a b c at (x ∷ ats) [] s e h i = absurd (omega arith)
one_within a b c at (x ∷ ats) (o ∷ os) s e h i = go (dec_lt a x) (λ f. one_within a b c at ats os (suc_inj s) f h i)
  where
    go : Dec (a < x) → (next_after a ats ≡ Some at → none_within b c (changes_of ats os) ≡ false) → none_within b c (changes_of (x ∷ ats) (o ∷ os)) ≡ false
    go (yes l) on =
        let f : Some x ≡ Some at = rw (lt-ltb a x l) at e in
        let same : x ≡ at = cc in
        between b c x (none_within b c (changes_of ats os)) (omega arith) (omega arith)
    go (no l) on = rw (on (rw (le-ltb a x (omega arith)) at e)) (and_no (not (ltb b x && leb x c)))

pub until_near : (ats os : List ℕ) (d : ℕ) → length ats ≡ length os → first_day ≤ d → d ≤ last_day → steady_until ats d ≤ last_day
    → none_within ((steady_until ats d - 1) * day_ns) ((steady_until ats d + 2) * day_ns) (changes_of ats os) ≡ false
until_near ats os d s low high =
    rw (until_is ats d low high) (near (next_after ((d - 1) * day_ns) ats) refl (stands_later ((d - 1) * day_ns) ats (omega arith)))
  where
    near : (o : Option ℕ) → next_after ((d - 1) * day_ns) ats ≡ o → (d - 1) * day_ns < stands_at o → near_from d o ≤ last_day
        → none_within ((near_from d o - 1) * day_ns) ((near_from d o + 2) * day_ns) (changes_of ats os) ≡ false
    near None e l h = absurd (omega arith)
    near (Some at) e l h = one_within ((d - 1) * day_ns) _ _ at ats os s e (omega arith) (omega arith)
