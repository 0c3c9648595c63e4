-- The offset at an instant, by the plain search and by how many transitions have passed. Assumes nothing.
use Rattle.std.proofs.Common.{◌≡◌, ℕ, zero, suc, ◌+◌, ◌*◌, ◌<◌, ◌≤◌, Bool, true, false, cond, leb, List, [], ◌∷◌, length, get_or, sym, refl, ap, ◌∙◌, le_of_suc-le-suc, not-suc-le-zero, arith, le-leb}
use native.Mathlib.Nat.{suc_inj}
use native.Mathlib.Decide.{dec_le}
use borrow.Author.Tests.{lt-leb}
use Rattle.zone.specs.Units.{most_offset}
use Rattle.zone.specs.Zone.{Zone, changes_of, zone_of, last_offset, offset_at}
use Rattle.zone.specs.Answers.{Each, After, Spaced, spacing_ns, Valid}
use Rattle.zone.specs.Private.{Passed}

-- a transition that has passed at t, and one that has not
passed_by : (o a p t : ℕ) (ats os : List ℕ) → a ≤ t → last_offset o (changes_of (a ∷ ats) (p ∷ os)) t ≡ last_offset p (changes_of ats os) t
unfolding last_offset
passed_by o a p t ats os h = ap (λ (b : Bool). last_offset (cond b p o) (changes_of ats os) t) (le-leb a t h)

to_come : (o a p t : ℕ) (ats os : List ℕ) → t < a → last_offset o (changes_of (a ∷ ats) (p ∷ os)) t ≡ last_offset o (changes_of ats os) t
unfolding last_offset
to_come o a p t ats os h = ap (λ (b : Bool). last_offset (cond b p o) (changes_of ats os) t) (lt-leb a t h)

-- the next transition, if any, stands later than t
abbrev Beyond : ℕ → List ℕ → Type 0
Beyond t [] = Unit {0}
Beyond t (a ∷ ats) = t < a

beyond_next : (t a : ℕ) (ats : List ℕ) → After a ats → t < a + spacing_ns → Beyond t ats
beyond_next t a [] h l = tt
beyond_next t a (b ∷ ats) h l = omega arith

-- then the offset is as it was
same_offset : (t o : ℕ) (ats os : List ℕ) → Spaced ats → Beyond t ats → last_offset o (changes_of ats os) t ≡ o
unfolding last_offset
same_offset t o [] os s b = refl
same_offset t o (a ∷ ats) [] s b = refl
same_offset t o (a ∷ ats) (p ∷ os) s b = to_come o a p t ats os b ∙ same_offset t o ats os s.1 (beyond_next t a ats s.0 (omega arith))

-- the first of spaced instants is not later than another
pub first_least : (a : ℕ) (ats : List ℕ) (k : ℕ) → Spaced (a ∷ ats) → k < length (a ∷ ats) → a ≤ get_or (a ∷ ats) k 0
first_least a ats zero s h = omega arith
first_least a [] (suc k) s h = absurd (not-suc-le-zero (le_of_suc-le-suc h))
first_least a (b ∷ ats) (suc k) s h = let on = first_least b ats k s.1 (le_of_suc-le-suc h) in omega arith

-- of the rest of a list, whose first has passed
pub last_rest : (t x k : ℕ) (ats : List ℕ) → get_or (x ∷ ats) k 0 ≤ t → get_or (0 ∷ ats) k 0 ≤ t
last_rest t x zero ats h = omega arith
last_rest t x (suc k) ats h = h

pub passed_rest : (t k x : ℕ) (ats : List ℕ) → Passed (x ∷ ats) t (suc k) → Passed ats t k
passed_rest t k x ats p = record { most = le_of_suc-le-suc p.most; last = last_rest t x k ats p.last; next = p.next }

-- the offset once k transitions have passed
pub offset_passed : (t o k : ℕ) (ats os : List ℕ) → Spaced ats → length ats ≡ length os → Passed ats t k
    → last_offset o (changes_of ats os) t ≡ get_or (o ∷ os) k 0
unfolding last_offset
offset_passed t o zero [] os s e p = refl
offset_passed t o (suc k) [] os s e p = absurd (not-suc-le-zero p.most)
offset_passed t o k (a ∷ ats) [] s e p = absurd (omega arith)
offset_passed t o zero (a ∷ ats) (q ∷ os) s e p =
    to_come o a q t ats os p.next ∙ same_offset t o ats os s.1 (beyond_next t a ats s.0 (omega (arith, p.next)))
offset_passed t o (suc k) (a ∷ ats) (q ∷ os) s e p =
    let h : a ≤ t = omega (arith, first_least a ats k s p.most, p.last) in
    passed_by o a q t ats os h ∙ offset_passed t q k ats os s.1 (suc_inj e) (passed_rest t k a ats p)

-- offsets are in their range
each_offset : (b o : ℕ) (ats os : List ℕ) (t : ℕ) → o ≤ b → Each 0 b os → last_offset o (changes_of ats os) t ≤ b
unfolding last_offset
each_offset b o [] os t h e = h
each_offset b o (a ∷ ats) [] t h e = h
each_offset b o (a ∷ ats) (p ∷ os) t h e = each_offset b (cond (leb a t) p o) ats os t (go (leb a t)) e.2
  where
    go : (c : Bool) → cond c p o ≤ b
    go true = e.1
    go false = h

pub offset_most : (first : ℕ) (ats os : List ℕ) (t : ℕ) → Valid first ats os → offset_at (zone_of first ats os) t ≤ 2 * most_offset
offset_most first ats os t v = each_offset (2 * most_offset) first ats os t v.first_in v.offsets_in

-- ---- at most one change in less than the spacing

-- from u to v the offset is that of u until `at`, and from there on that of v
pub record Turn (z : Zone) (u v at : ℕ) : Type 0 where
  pub until : (t : ℕ) → u ≤ t → t ≤ v → t < at → offset_at z t ≡ offset_at z u
  pub since : (t : ℕ) → u ≤ t → t ≤ v → at ≤ t → offset_at z t ≡ offset_at z v

steady : (o : ℕ) (ats os : List ℕ) (u v : ℕ) → u ≤ v → ((t : ℕ) → t ≤ v → last_offset o (changes_of ats os) t ≡ o)
    → Turn (zone_of o ats os) u v u
steady o ats os u v h f =
    record { until = λ t a b l. absurd (omega arith); since = λ t a b l. f t b ∙ sym (f v (omega arith)) }

pub turn : (o : ℕ) (ats os : List ℕ) (u v : ℕ) → Spaced ats → u ≤ v → v < u + spacing_ns → (at : ℕ) × Turn (zone_of o ats os) u v at
unfolding last_offset
turn o [] os u v s h l = (u, steady o [] os u v h (λ t b. refl))
turn o (a ∷ ats) [] u v s h l = (u, steady o (a ∷ ats) [] u v h (λ t b. refl))
turn o (a ∷ ats) (p ∷ os) u v s h l = go (dec_le a u) (dec_le a v) (turn p ats os u v s.1 h l)
  where
    go : Dec (a ≤ u) → Dec (a ≤ v) → (at : ℕ) × Turn (zone_of p ats os) u v at → (at : ℕ) × Turn (zone_of o (a ∷ ats) (p ∷ os)) u v at
    go (yes early) d on = (
      on.0,
      record {
        until = λ t x y m. passed_by o a p t ats os (omega arith) ∙ on.1.until t x y m ∙ sym (passed_by o a p u ats os early);
        since = λ t x y m. passed_by o a p t ats os (omega arith) ∙ on.1.since t x y m ∙ sym (passed_by o a p v ats os (omega arith));
      },
    )
    go (no late) (yes within) on =
        let rest : (t : ℕ) → t ≤ v → last_offset p (changes_of ats os) t ≡ p =
        λ t y. same_offset t p ats os s.1 (beyond_next t a ats s.0 (omega arith)) in
        let none_yet : (t : ℕ) → t < a → last_offset o (changes_of (a ∷ ats) (p ∷ os)) t ≡ o = λ t m. same_offset t o (a ∷ ats) (p ∷ os) s m in (
          a,
          record {
            until = λ t x y m. none_yet t m ∙ sym (none_yet u (omega arith));
            since = λ t x y m. passed_by o a p t ats os m ∙ rest t y ∙ sym (rest v (omega arith)) ∙ sym (passed_by o a p v ats os within);
          },
        )
    go (no late) (no beyond) on = (u, steady o (a ∷ ats) (p ∷ os) u v h (λ t b. same_offset t o (a ∷ ats) (p ∷ os) s (omega arith)))
