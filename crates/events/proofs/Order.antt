-- The events of a span are in order: the same events, by instant, those of one instant as they were; and no other list is. Assumes nothing.
use Prim.Native.Nat.{ℕ, suc, ◌≤◌, ◌<◌}
use mathlib.Core.Path.{◌≡◌, refl, sym, ap, ap₂, ◌∙◌}
use mathlib.Core.Bool.{Bool, true, false, cond}
use mathlib.Core.List.{List, [], ◌∷◌, head-eq_of_cons-eq, tail-eq_of_cons-eq, nil≢cons, cons≢nil}
use native.Mathlib.Nat.{lt_of_not-le}
use native.Mathlib.Decide.{ℕ_discrete, dec_le}
use native.Mathlib.Omega.{arith}
use borrow.Author.Tests.{leb-true, leb-false, eq-eqb, ne_eqb}
use lib.Dec.{leb, eqb}
use lib.ListN.{length}
use Rattle.events.specs.declared.Occurrence.{Occurrence}
use Rattle.events.specs.Happenings.{insert, by_instant}
use Rattle.events.specs.Order.{instant, Permutation, none, keep, swap, also, NotBefore, Sorted, at_instant}

-- ---- one is put in front of those that are not earlier

insert_front : (o p : Occurrence) (ps : List Occurrence) → leb (instant o) (instant p) ≡ true → insert o (p ∷ ps) ≡ o ∷ p ∷ ps
unfolding insert
insert_front o p ps h = simp h

insert_behind : (o p : Occurrence) (ps : List Occurrence) → leb (instant o) (instant p) ≡ false → insert o (p ∷ ps) ≡ p ∷ insert o ps
unfolding insert
insert_behind o p ps h = simp h

insert_length : (o : Occurrence) (ps : List Occurrence) → length (insert o ps) ≡ suc (length ps)
unfolding insert
insert_length o [] = refl
insert_length o (p ∷ ps) = go (insert_length o ps) (leb (instant o) (instant p)) refl
  where
    go : length (insert o ps) ≡ suc (length ps) → (b : Bool) → leb (instant o) (instant p) ≡ b → length (insert o (p ∷ ps)) ≡ suc (suc (length ps))
    go more true h = ap length (insert_front o p ps h)
    go more false h = ap length (insert_behind o p ps h) ∙ ap suc more

pub length_sorted : (os : List Occurrence) → length (by_instant os) ≡ length os
unfolding by_instant
length_sorted [] = refl
length_sorted (o ∷ os) = insert_length o (by_instant os) ∙ ap suc (length_sorted os)

-- ---- instants do not fall

insert_not_before : (t : ℕ) (o : Occurrence) (ps : List Occurrence) → t ≤ instant o → NotBefore t ps → NotBefore t (insert o ps)
unfolding insert
insert_not_before t o [] h l = h
insert_not_before t o (p ∷ ps) h l = go (leb (instant o) (instant p))
  where
    go : (b : Bool) → NotBefore t (cond b (o ∷ p ∷ ps) (p ∷ insert o ps))
    go true = h
    go false = l

insert_sorted : (o : Occurrence) (ps : List Occurrence) → Sorted ps → Sorted (insert o ps)
unfolding insert
insert_sorted o [] s = (tt, tt)
insert_sorted o (p ∷ ps) s = go (insert_sorted o ps s.1) (leb (instant o) (instant p)) refl
  where
    go : Sorted (insert o ps) → (b : Bool) → leb (instant o) (instant p) ≡ b → Sorted (cond b (o ∷ p ∷ ps) (p ∷ insert o ps))
    go more true h = (leb-true (instant o) (instant p) h, s)
    go more false h = let l = leb-false (instant o) (instant p) h in (insert_not_before (instant p) o ps (omega (arith, l)) s.0, more)

pub sorted : (os : List Occurrence) → Sorted (by_instant os)
unfolding by_instant
sorted [] = tt
sorted (o ∷ os) = insert_sorted o (by_instant os) (sorted os)

-- ---- the same events

insert_permuted : (o : Occurrence) (ps : List Occurrence) → Permutation (o ∷ ps) (insert o ps)
unfolding insert
insert_permuted o [] = keep o none
insert_permuted o (p ∷ ps) = go (insert_permuted o ps) (leb (instant o) (instant p))
  where
    as_they_are : (qs : List Occurrence) → Permutation qs qs
    as_they_are [] = none
    as_they_are (q ∷ qs) = keep q (as_they_are qs)

    go : Permutation (o ∷ ps) (insert o ps) → (b : Bool) → Permutation (o ∷ p ∷ ps) (cond b (o ∷ p ∷ ps) (p ∷ insert o ps))
    go more true = as_they_are (o ∷ p ∷ ps)
    go more false = also (swap o p ps) (keep p more)

pub permuted : (os : List Occurrence) → Permutation os (by_instant os)
unfolding by_instant
permuted [] = none
permuted (o ∷ os) = also (keep o (permuted os)) (insert_permuted o (by_instant os))

-- ---- those of one instant as they were

at_in : (t : ℕ) (o : Occurrence) (os : List Occurrence) → instant o ≡ t → at_instant t (o ∷ os) ≡ o ∷ at_instant t os
at_in t o os e = simp (eq-eqb (instant o) t e)

at_out : (t : ℕ) (o : Occurrence) (os : List Occurrence) → (instant o ≡ t → ⊥) → at_instant t (o ∷ os) ≡ at_instant t os
at_out t o os n = simp (ne_eqb (instant o) t n)

-- neighbours of two instants may be exchanged
at_swap : (t : ℕ) (o p : Occurrence) (os : List Occurrence) → instant p < instant o → at_instant t (p ∷ o ∷ os) ≡ at_instant t (o ∷ p ∷ os)
at_swap t o p os h = go (ℕ_discrete (instant o) t)
  where
    go : Dec (instant o ≡ t) → at_instant t (p ∷ o ∷ os) ≡ at_instant t (o ∷ p ∷ os)
    go (yes e) =
        let n : instant p ≡ t → ⊥ = λ i. omega arith in
        at_out t p (o ∷ os) n ∙ at_in t o os e ∙ sym (at_in t o (p ∷ os) e ∙ ap (◌∷◌ o) (at_out t p os n))
    go (no n) = ap (λ (r : List Occurrence). cond (eqb (instant p) t) (p ∷ r) r) (at_out t o os n) ∙ sym (at_out t o (p ∷ os) n)

insert_stable : (t : ℕ) (o : Occurrence) (ps : List Occurrence) → at_instant t (insert o ps) ≡ at_instant t (o ∷ ps)
unfolding insert
insert_stable t o [] = refl
insert_stable t o (p ∷ ps) = go (insert_stable t o ps) (leb (instant o) (instant p)) refl
  where
    go : at_instant t (insert o ps) ≡ at_instant t (o ∷ ps) → (b : Bool) → leb (instant o) (instant p) ≡ b
        → at_instant t (cond b (o ∷ p ∷ ps) (p ∷ insert o ps)) ≡ at_instant t (o ∷ p ∷ ps)
    go more true h = refl
    go more false h = ap (λ (r : List Occurrence). cond (eqb (instant p) t) (p ∷ r) r) more ∙ at_swap t o p ps (leb-false (instant o) (instant p) h)

pub stable : (os : List Occurrence) (t : ℕ) → at_instant t (by_instant os) ≡ at_instant t os
unfolding by_instant
stable [] t = refl
stable (o ∷ os) t = insert_stable t o (by_instant os) ∙ ap (λ (r : List Occurrence). cond (eqb (instant o) t) (o ∷ r) r) (stable os t)

-- ---- no other list is sorted, with the same at each instant

none_earlier : (t : ℕ) (os : List Occurrence) → Sorted os → (s : ℕ) → NotBefore s os → t < s → at_instant t os ≡ []
none_earlier t [] s u l h = refl
none_earlier t (o ∷ os) s u l h = at_out t o os (λ e. omega arith) ∙ none_earlier t os s.1 (instant o) s.0 (omega arith)

-- the first is of the same instant
not_later : (p q : Occurrence) (ps qs : List Occurrence) → Sorted (q ∷ qs) → at_instant (instant p) (p ∷ ps) ≡ at_instant (instant p) (q ∷ qs)
    → instant q ≤ instant p
not_later p q ps qs s e = go (dec_le (instant q) (instant p))
  where
    go : Dec (instant q ≤ instant p) → instant q ≤ instant p
    go (yes h) = h
    go (no h) =
        absurd (cons≢nil (sym (at_in (instant p) p ps refl) ∙ e ∙ none_earlier (instant p) (q ∷ qs) s (instant q) (omega arith) (lt_of_not-le h)))

-- what follows it is the same at each instant
at_rest : (p : Occurrence) (ps qs : List Occurrence) → ((t : ℕ) → at_instant t (p ∷ ps) ≡ at_instant t (p ∷ qs)) → (t : ℕ)
    → at_instant t ps ≡ at_instant t qs
at_rest p ps qs e t = go (ℕ_discrete (instant p) t)
  where
    go : Dec (instant p ≡ t) → at_instant t ps ≡ at_instant t qs
    go (yes i) = tail-eq_of_cons-eq (sym (at_in t p ps i) ∙ e t ∙ at_in t p qs i)
    go (no n) = sym (at_out t p ps n) ∙ e t ∙ at_out t p qs n

pub sorted_once : (ps qs : List Occurrence) → Sorted ps → Sorted qs → ((t : ℕ) → at_instant t ps ≡ at_instant t qs) → ps ≡ qs
sorted_once [] [] s u e = refl
sorted_once [] (q ∷ qs) s u e = absurd (nil≢cons (e (instant q) ∙ at_in (instant q) q qs refl))
sorted_once (p ∷ ps) [] s u e = absurd (cons≢nil (sym (at_in (instant p) p ps refl) ∙ e (instant p)))
sorted_once (p ∷ ps) (q ∷ qs) s u e =
    let h = not_later p q ps qs u (e (instant p)) in
    let l = not_later q p qs ps s (sym (e (instant q))) in
    let i : instant q ≡ instant p = omega arith in
    let first : p ≡ q = head-eq_of_cons-eq (sym (at_in (instant p) p ps refl) ∙ e (instant p) ∙ at_in (instant p) q qs i) in
    ap₂ ◌∷◌ first (sorted_once ps qs s.1 u.1 (at_rest p ps qs (λ t. e t ∙ ap (λ (r : Occurrence). at_instant t (r ∷ qs)) (sym first))))

-- so the events by instant are the only ones in order
pub by_instant_once : (os ps : List Occurrence) → Sorted ps → ((t : ℕ) → at_instant t ps ≡ at_instant t os) → ps ≡ by_instant os
by_instant_once os ps s e = sorted_once ps (by_instant os) s (sorted os) (λ t. e t ∙ sym (stable os t))
