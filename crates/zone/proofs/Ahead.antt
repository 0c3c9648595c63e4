-- The test whether every instant reads a date, one transition after the other, as the code looks at them. Assumes nothing.
use Rattle.std.proofs.Common.{◌≡◌, ℕ, zero, suc, ◌+◌, ◌-◌, ◌^◌, ◌<◌, ◌≤◌, Bool, true, false, not, ◌&&◌, ltb, List, [], ◌∷◌, length, get_or, drop, sym, refl, ap, ◌∙◌, subst, ap₂, le_of_suc-le-suc, not-suc-le-zero, add-one, arith, drop-cons, le-ltb, lt-ltb}
use native.Mathlib.Nat.{suc_inj}
use borrow.Author.Tests.{not-true, not-false}
use lib.Seq.{drop-length}
use Rattle.wire.proofs.Signs.{and_no}
use Rattle.zone.specs.Zone.{Zone, changes_of}
use Rattle.zone.specs.Answers.{After, Spaced, Valid}
use Rattle.zone.specs.Private.{Passed}
use Rattle.zone.specs.Throughout.{reads_on, reads_around, reads_changes, reads_throughout}
use Rattle.zone.proofs.Offsets.{first_least, last_rest}
use Rattle.zone.proofs.Validity.{Begins}

-- what is left of a list from the k-th on begins with the k-th
begins_later : (a k : ℕ) (ats : List ℕ) → a < get_or ats k (2 ^ 64) → Begins (suc a) (drop k ats)
begins_later a zero [] h = tt
begins_later a zero (x ∷ ats) h = h
begins_later a (suc k) [] h = tt
begins_later a (suc k) (x ∷ ats) h = begins_later a k ats h

pub begins_at : (b k : ℕ) (ats : List ℕ) → k < length ats → Begins b (drop k ats) → b ≤ get_or ats k 0
begins_at b k [] h i = absurd (not-suc-le-zero h)
begins_at b zero (x ∷ ats) h i = i
begins_at b (suc k) (x ∷ ats) h i = begins_at b k ats (le_of_suc-le-suc h) i

at_begins : (b k : ℕ) (ats : List ℕ) → k < length ats → b ≤ get_or ats k 0 → Begins b (drop k ats)
at_begins b k [] h i = absurd (not-suc-le-zero h)
at_begins b zero (x ∷ ats) h i = i
at_begins b (suc k) (x ∷ ats) h i = at_begins b k ats (le_of_suc-le-suc h) i

begins_next : (a x : ℕ) (ats : List ℕ) → After x ats → a ≤ x → Begins a ats
begins_next a x [] f h = tt
begins_next a x (y ∷ ats) f h = omega arith

spaced_left : (k : ℕ) (ats : List ℕ) → Spaced ats → Spaced (drop k ats)
spaced_left zero ats s = s
spaced_left (suc k) [] s = tt
spaced_left (suc k) (x ∷ ats) s = spaced_left k ats s.1

module _ (z : Zone) (d a b : ℕ) where
  around_early : (at : ℕ) → at ≤ a → reads_around z d a b at ≡ true
  around_early at h = simp (le-ltb a at h)

  around_late : (at : ℕ) → b ≤ at → reads_around z d a b at ≡ true
  around_late at h = simp (le-ltb at b h, and_no (ltb a at))

  around_in : (at : ℕ) → a < at → at < b → reads_around z d a b at ≡ (reads_on z d (at - 1) && reads_on z d at)
  around_in at h i = simp (lt-ltb a at h, lt-ltb at b i)

  early_changes : (k : ℕ) (ats os : List ℕ) → Spaced ats → length ats ≡ length os → k ≤ length ats → get_or (0 ∷ ats) k 0 ≤ a
      → reads_changes z d a b (changes_of ats os) ≡ reads_changes z d a b (changes_of (drop k ats) (drop k os))
  unfolding reads_changes
  early_changes zero ats os s e h l = refl
  early_changes (suc k) [] os s e h l = absurd (not-suc-le-zero h)
  early_changes (suc k) (x ∷ ats) [] s e h l = absurd (omega arith)
  early_changes (suc k) (x ∷ ats) (o ∷ os) s e h l =
      rw (around_early x (omega (arith, first_least x ats k s h, l)))
      (early_changes k ats os s.1 (suc_inj e) (le_of_suc-le-suc h) (last_rest a x k ats l))

  late_changes : (ats os : List ℕ) → Spaced ats → Begins b ats → reads_changes z d a b (changes_of ats os) ≡ true
  unfolding reads_changes
  late_changes [] os s h = refl
  late_changes (x ∷ ats) [] s h = refl
  late_changes (x ∷ ats) (o ∷ os) s h = rw (around_late x h) (late_changes ats os s.1 (begins_next b x ats s.0 h))

  -- the transitions before the k-th tell nothing more, and the k-th stands after a
  pub record Ahead (ats os : List ℕ) (k : ℕ) : Type 0 where
    pub next : Begins (suc a) (drop k ats)
    pub same : reads_changes z d a b (changes_of ats os) ≡ reads_changes z d a b (changes_of (drop k ats) (drop k os))

module _ {z : Zone} {d a b first : ℕ} {ats os : List ℕ} (ok : Valid first ats os) {k : ℕ} where
  pub ahead_passed : Passed ats a k → Ahead z d a b ats os k
  ahead_passed p =
      record { next = begins_later a k ats p.next; same = early_changes z d a b k ats os ok.spaced ok.alike p.most p.last }

  module _ (n : Ahead z d a b ats os k) where
    pub ahead_end : length ats ≤ k → k ≤ length ats → reads_changes z d a b (changes_of ats os) ≡ true
    unfolding reads_changes
    ahead_end h i =
        let j : k ≡ length ats = omega arith in
        n.same ∙ ap (λ (xs : List ℕ). reads_changes z d a b (changes_of xs (drop k os))) (ap (λ (m : ℕ). drop m ats) j ∙ drop-length ats)

    module _ (h : k < length ats) where
      ahead_at : a < get_or ats k 0
      ahead_at = begins_at (suc a) k ats h n.next

      pub ahead_late : b ≤ get_or ats k 0 → reads_changes z d a b (changes_of ats os) ≡ true
      ahead_late i = n.same ∙ late_changes z d a b (drop k ats) (drop k os) (spaced_left k ats ok.spaced) (at_begins b k ats h i)

      step : reads_changes z d a b (changes_of ats os)
          ≡ (reads_around z d a b (get_or ats k 0) && reads_changes z d a b (changes_of (drop (suc k) ats) (drop (suc k) os)))
      unfolding reads_changes
      step =
          n.same
          ∙ ap₂ (λ (xs ys : List ℕ). reads_changes z d a b (changes_of xs ys)) (drop-cons ats k 0 h) (drop-cons os k 0 (omega (arith, ok.alike)))

      -- both sides of the k-th, as they were found
      module _ (i : get_or ats k 0 < b) {p q : Bool} (e : p ≡ reads_on z d (get_or ats k 0 - 1)) (f : q ≡ reads_on z d (get_or ats k 0)) where
        pub ahead_stops : not (p && q) ≡ true → reads_changes z d a b (changes_of ats os) ≡ false
        ahead_stops r = step ∙ rw (around_in z d a b (get_or ats k 0) ahead_at i, sym e, sym f, not-true (p && q) r)

        pub ahead_goes : not (p && q) ≡ false → Ahead z d a b ats os (k + 1)
        ahead_goes r =
            let one : Spaced (get_or ats k 0 ∷ drop (suc k) ats) = subst Spaced (drop-cons ats k 0 h) (spaced_left k ats ok.spaced) in
            let on : Ahead z d a b ats os (suc k) =
            record {
              next = begins_next (suc a) (get_or ats k 0) (drop (suc k) ats) one.0 ahead_at;
              same = step ∙ rw (around_in z d a b (get_or ats k 0) ahead_at i, sym e, sym f, not-false (p && q) r);
            }
            in
            subst (Ahead z d a b ats os) (sym (add-one k)) on

-- ---- the whole test of a stretch

module _ (z : Zone) (d a b : ℕ) where
  pub through_empty : b ≤ a → true ≡ reads_throughout z d a b
  unfolding reads_throughout
  through_empty h = sym (simp (le-ltb a b h))

  pub through_all : a < b → {p q r : Bool} → p ≡ reads_on z d a → q ≡ reads_on z d (b - 1) → r ≡ reads_changes z d a b z.changes
      → ((p && q) && r) ≡ reads_throughout z d a b
  unfolding reads_throughout
  through_all h {p} {q} {r} e f g = rw (e, f, g) (sym (rw (lt-ltb a b h)))
