-- The next of the events that are kept: how it is sought. Assumes nothing.
use Prim.Native.Nat.{ℕ, zero, suc, ◌+◌, ◌-◌, ◌≤◌, ◌<◌}
use mathlib.Core.Path.{◌≡◌, refl, sym, ap, ap₂, ◌∙◌}
use mathlib.Core.Bool.{Bool, true, false, cond, ◌&&◌, ◌||◌}
use mathlib.Core.List.{List, []}
use native.Mathlib.Omega.{arith}
use native.Mathlib.Decide.{dec_lt}
use borrow.Author.Tests.{lt-ltb, le-ltb, eq-eqb, ne_eqb}
use lib.Dec.{leb, ltb, eqb}
use lib.ListN.{length}
use Rattle.events.specs.declared.Occurrence.{Occurrence}
use Rattle.std.specs.Prelude.{Option}
use Rattle.std.specs.Prelude.{None, Some}
use Rattle.events.specs.declared.Search.{Search}
use Rattle.events.specs.Seeking.{from_here, better, met, sought, begin}
use Rattle.events.specs.Order.{instant}
use Rattle.events.specs.Keeping.{listed, best_at, kept_of, Next}

module _ (o : ℕ → Occurrence) (n : ℕ) where
  pub best_some : (r : ℕ) → r < n → best_at o n r ≡ Some (o r, r)
  best_some r h = simp (lt-ltb r n h)

  pub best_none : (r : ℕ) → n ≤ r → best_at o n r ≡ None
  best_none r h = simp (le-ltb r n h)

  -- it comes before the best so far, whose instant is `first`
  better_by : (best first t : ℕ) (p : Occurrence) → best ≤ n → instant p ≡ t → (best < n → instant (o best) ≡ first)
      → better (best_at o n best) p ≡ eqb best n || ltb t first
  better_by best first t p h e f = go (dec_lt best n)
    where
      go : Dec (best < n) → better (best_at o n best) p ≡ eqb best n || ltb t first
      go (yes l) = ap (λ (b : Option (Occurrence × ℕ)). better b p) (best_some best l) ∙ ap₂ ltb e (f l) ∙ sym (ap (λ (b : Bool). b || ltb t first) (ne_eqb best n (λ i. omega arith)))
      go (no l) = ap (λ (b : Option (Occurrence × ℕ)). better b p) (best_none best (omega arith)) ∙ sym (ap (λ (b : Bool). b || ltb t first) (eq-eqb best n (omega arith)))

  module _ (at index : ℕ) where
    abbrev passed : ℕ → ℕ → Search
    passed i best = record { at = record { 0 = at }; index = index; count = i; best = best_at o n best }

    -- i are passed
    abbrev pub Seeks : ℕ → ℕ → Type 0
    Seeks i best = sought (begin at index) (listed o 0 n) ≡ sought (passed i best) (listed o i (n - i))

    one : (i : ℕ) (s : Search) → i < n → sought s (listed o i (n - i)) ≡ sought (met s (o i)) (listed o (i + 1) (n - (i + 1)))
    unfolding sought
    one i s h =
        let k : n - i ≡ suc (n - (i + 1)) = omega arith in
        let j : suc i ≡ i + 1 = omega arith in
        ap (λ (m : ℕ). sought s (listed o i m)) k ∙ ap (λ (m : ℕ). sought (met s (o i)) (listed o m (n - (i + 1)))) j

    pub seek_one : (i best first t best' : ℕ) → Seeks i best → i < n → best ≤ n → instant (o i) ≡ t → (best < n → instant (o best) ≡ first) → (q : Bool)
        → (ltb at t || (eqb at t && leb index i)) && (eqb best n || ltb t first) ≡ q → best' ≡ cond q i best → Seeks (i + 1) best'
    seek_one i best first t best' p h l e f q test chosen =
        p ∙ one i (passed i best) h ∙ ap (λ (b : Option (Occurrence × ℕ)). sought (record { at = record { 0 = at }; index = index; count = i + 1; best = b }) (listed o (i + 1) (n - (i + 1)))) same
      where
        here : from_here at index (o i) i && better (best_at o n best) (o i) ≡ q
        here = ap₂ ◌&&◌ (ap (λ (x : ℕ). ltb at x || (eqb at x && leb index i)) e) (better_by best first t (o i) l e f) ∙ test

        go : (y : Bool) → cond y (Some (o i, i)) (best_at o n best) ≡ best_at o n (cond y i best)
        go true = sym (best_some i h)
        go false = refl

        same : cond (from_here at index (o i) i && better (best_at o n best) (o i)) (Some (o i, i)) (best_at o n best) ≡ best_at o n best'
        same = ap (λ (y : Bool). cond y (Some (o i, i)) (best_at o n best)) here ∙ go q ∙ ap (best_at o n) (sym chosen)

    pub seek_end : (i best : ℕ) → Seeks i best → n ≤ i → (sought (begin at index) (listed o 0 n)).best ≡ best_at o n best
    unfolding sought
    seek_end i best p h =
        let k : n - i ≡ 0 = omega arith in
        ap (λ (s : Search). s.best) (p ∙ ap (λ (m : ℕ). sought (passed i best) (listed o i m)) k)

-- ---- no second answer

-- the number of the best, or n where there is none
abbrev number_or : ℕ → Option (Occurrence × ℕ) → ℕ
number_or n None = n
number_or n (Some (o, r)) = r

number_of : (o : ℕ → Occurrence) (n r : ℕ) → r ≤ n → number_or n (best_at o n r) ≡ r
number_of o n r h = go (dec_lt r n)
  where
    go : Dec (r < n) → number_or n (best_at o n r) ≡ r
    go (yes p) = ap (number_or n) (best_some o n r p)
    go (no p) = ap (number_or n) (best_none o n r (omega arith)) ∙ omega arith

number : (o : ℕ → Occurrence) (n r s : ℕ) → r ≤ n → s ≤ n → best_at o n r ≡ best_at o n s → r ≡ s
number o n r s h i e = sym (number_of o n r h) ∙ ap (number_or n) e ∙ number_of o n s i

pub next_once : {when : List ℕ} {n at index r s : ℕ} → Next when n at index r → Next when n at index s → r ≡ s
next_once {when} {n} {r = r} {s = s} p q =
    let o = kept_of [] when [] in
    number o n r s p.within q.within (sym (p.best o (λ i h. refl)) ∙ q.best o (λ i h. refl))

-- how many events are listed
pub listed_length : (o : ℕ → Occurrence) (i n : ℕ) → length (listed o i n) ≡ n
listed_length o i zero = refl
listed_length o i (suc n) = ap suc (listed_length o (suc i) n)
