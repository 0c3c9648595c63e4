-- Events sought one after the other come in order. Each has its number: in order of instant and number, the next is the first behind the one before. Assumes nothing.
use Prim.Native.Nat.{ℕ, zero, suc, ◌+◌, ◌≤◌, ◌<◌}
use mathlib.Core.Path.{◌≡◌, refl, sym, ap, ◌∙◌}
use mathlib.Core.Bool.{Bool, true, false, cond, ◌&&◌, ◌||◌, true≢false, false≢true}
use mathlib.Core.List.{List, [], ◌∷◌, head-eq_of_cons-eq, tail-eq_of_cons-eq, nil≢cons}
use native.Mathlib.Omega.{arith}
use native.Mathlib.Decide.{dec_lt}
use borrow.Author.Tests.{ltb-true, ltb-false, eqb-false, lt-ltb, le-ltb, leb-true, leb-false, le-leb, lt-leb, eqb-true, eq-eqb, ne_eqb}
use lib.Dec.{leb, ltb, eqb}
use lib.ListN.{length}
use Rattle.events.specs.declared.Occurrence.{Occurrence}
use Rattle.std.specs.Prelude.{Option}
use Rattle.std.specs.Prelude.{None, Some}
use Rattle.events.specs.declared.Search.{Search}
use Rattle.events.specs.Happenings.{insert, by_instant}
use Rattle.events.specs.Seeking.{from_here, better, met, sought, begin, in_turn, all_in_turn}
use Rattle.events.specs.Order.{instant}
use Rattle.events.proofs.Order.{length_sorted}

-- ---- how many are met

pub sought_count : (s : Search) (os : List Occurrence) → (sought s os).count ≡ s.count + length os
unfolding sought
sought_count s [] = omega arith
sought_count s (o ∷ os) = let more = sought_count (met s o) os in omega (arith, more)

-- as many were met as there are
pub begun_count : (at index : ℕ) (os : List Occurrence) {s : Search} → s ≡ sought (begin at index) os → s.count ≡ length os
begun_count at index os e = let c = ap (λ (x : Search). x.count) e ∙ sought_count (begin at index) os in omega arith

-- ---- before and behind, by instant and number: a place a, x, and an event of instant t and number i

abbrev behind : ℕ → ℕ → ℕ → ℕ → Bool
behind a x t i = ltb a t || (eqb a t && leb x i)

behind_later : (a x t i : ℕ) → a < t → behind a x t i ≡ true
behind_later a x t i h = simp (lt-ltb a t h)

behind_same : (a x t i : ℕ) → a ≡ t → x ≤ i → behind a x t i ≡ true
behind_same a x t i e h = simp (le-ltb a t (omega arith), eq-eqb a t e, le-leb x i h)

before_earlier : (a x t i : ℕ) → t < a → behind a x t i ≡ false
before_earlier a x t i h = simp (le-ltb a t (omega arith), ne_eqb a t (λ e. omega arith))

before_same : (a x t i : ℕ) → a ≡ t → i < x → behind a x t i ≡ false
before_same a x t i e h = simp (le-ltb a t (omega arith), eq-eqb a t e, lt-leb x i h)

-- what the test says
data Behind (a x t i : ℕ) : Type 0 where
  later : a < t → Behind a x t i
  same : a ≡ t → x ≤ i → Behind a x t i

data Before (a x t i : ℕ) : Type 0 where
  earlier : t < a → Before a x t i
  same_but_less : a ≡ t → i < x → Before a x t i

is_behind : (a x t i : ℕ) → behind a x t i ≡ true → Behind a x t i
is_behind a x t i e = go (ltb a t) refl (eqb a t) refl (leb x i) refl e
  where
    go : (b : Bool) → ltb a t ≡ b → (c : Bool) → eqb a t ≡ c → (d : Bool) → leb x i ≡ d → b || (c && d) ≡ true → Behind a x t i
    go true p c q d r e = later (ltb-true a t p)
    go false p true q true r e = same (eqb-true a t q) (leb-true x i r)
    go false p true q false r e = absurd (false≢true e)
    go false p false q d r e = absurd (false≢true e)

is_before : (a x t i : ℕ) → behind a x t i ≡ false → Before a x t i
is_before a x t i e = go (ltb a t) refl (eqb a t) refl (leb x i) refl e
  where
    go : (b : Bool) → ltb a t ≡ b → (c : Bool) → eqb a t ≡ c → (d : Bool) → leb x i ≡ d → b || (c && d) ≡ false → Before a x t i
    go true p c q d r e = absurd (true≢false e)
    go false p true q true r e = absurd (true≢false e)
    go false p true q false r e = same_but_less (eqb-true a t q) (leb-false x i r)
    go false p false q d r e =
        let l = ltb-false a t p in
        let n = eqb-false a t q in
        earlier (omega arith)

-- behind what is behind
behind_also : (a x t i u j : ℕ) → behind a x t i ≡ true → behind t (i + 1) u j ≡ true → behind a x u j ≡ true
behind_also a x t i u j p q = go (is_behind a x t i p) (is_behind t (i + 1) u j q)
  where
    go : Behind a x t i → Behind t (i + 1) u j → behind a x u j ≡ true
    go (later h) (later l) = behind_later a x u j (omega arith)
    go (later h) (same e l) = behind_later a x u j (omega arith)
    go (same e h) (later l) = behind_later a x u j (omega arith)
    go (same e h) (same f l) = behind_same a x u j (omega arith) (omega arith)

-- what does not come behind a place, does not come behind what is behind that place
before_also : (a x t i u j : ℕ) → behind a x t i ≡ true → behind a x u j ≡ false → behind t (i + 1) u j ≡ false
before_also a x t i u j p q = go (is_behind a x t i p) (is_before a x u j q)
  where
    go : Behind a x t i → Before a x u j → behind t (i + 1) u j ≡ false
    go (later h) (earlier l) = before_earlier t (i + 1) u j (omega arith)
    go (later h) (same_but_less e l) = before_earlier t (i + 1) u j (omega arith)
    go (same e h) (earlier l) = before_earlier t (i + 1) u j (omega arith)
    go (same e h) (same_but_less f l) = before_same t (i + 1) u j (omega arith) (omega arith)

-- nothing comes behind itself
not_behind_itself : (t i : ℕ) → behind t (i + 1) t i ≡ false
not_behind_itself t i = before_same t (i + 1) t i refl (omega arith)

behind_by : (t i u j : ℕ) → t ≤ u → i < j → behind t (i + 1) u j ≡ true
behind_by t i u j h l = go (dec_lt t u)
  where
    go : Dec (t < u) → behind t (i + 1) u j ≡ true
    go (yes b) = behind_later t (i + 1) u j b
    go (no n) = behind_same t (i + 1) u j (omega arith) (omega arith)

-- everything comes behind the start
behind_start : (t i : ℕ) → behind 0 0 t i ≡ true
behind_start t i = go (dec_lt 0 t)
  where
    go : Dec (0 < t) → behind 0 0 t i ≡ true
    go (yes h) = behind_later 0 0 t i h
    go (no h) = behind_same 0 0 t i (omega arith) (omega arith)

-- ---- numbered events

record Numbered : Type 0 where
  event : Occurrence
  number : ℕ

abbrev numbered : Occurrence → ℕ → Numbered
numbered o k = record { event = o; number = k }

abbrev at : Numbered → ℕ
at n = instant n.event

-- at or behind a place
abbrev hence : ℕ → ℕ → Numbered → Bool
hence a x n = behind a x (at n) n.number

-- those at or behind a place
abbrev from : ℕ → ℕ → List Numbered → List Numbered
from a x [] = []
from a x (m ∷ ms) = let rest = from a x ms in cond (hence a x m) (m ∷ rest) rest

-- in front of those that are not earlier
abbrev put : Numbered → List Numbered → List Numbered
put n [] = n ∷ []
put n (m ∷ ms) = cond (leb (at n) (at m)) (n ∷ m ∷ ms) (m ∷ put n ms)

-- numbered from k on, by instant
abbrev in_order : ℕ → List Occurrence → List Numbered
in_order k [] = []
in_order k (o ∷ os) = put (numbered o k) (in_order (k + 1) os)

abbrev events : List Numbered → List Occurrence
events [] = []
events (m ∷ ms) = m.event ∷ events ms

abbrev first : List Numbered → Option (Occurrence × ℕ)
first [] = None
first (m ∷ ms) = Some (m.event, m.number)

from_in : (a x : ℕ) (m : Numbered) (ms : List Numbered) → hence a x m ≡ true → from a x (m ∷ ms) ≡ m ∷ from a x ms
from_in a x m ms h = ap (λ (b : Bool). cond b (m ∷ from a x ms) (from a x ms)) h

from_out : (a x : ℕ) (m : Numbered) (ms : List Numbered) → hence a x m ≡ false → from a x (m ∷ ms) ≡ from a x ms
from_out a x m ms h = ap (λ (b : Bool). cond b (m ∷ from a x ms) (from a x ms)) h

put_front : (n m : Numbered) (ms : List Numbered) → leb (at n) (at m) ≡ true → put n (m ∷ ms) ≡ n ∷ m ∷ ms
put_front n m ms h = ap (λ (b : Bool). cond b (n ∷ m ∷ ms) (m ∷ put n ms)) h

put_behind : (n m : Numbered) (ms : List Numbered) → leb (at n) (at m) ≡ false → put n (m ∷ ms) ≡ m ∷ put n ms
put_behind n m ms h = ap (λ (b : Bool). cond b (n ∷ m ∷ ms) (m ∷ put n ms)) h

-- without their numbers they are the events by instant
events_put : (n : Numbered) (ms : List Numbered) → events (put n ms) ≡ insert n.event (events ms)
unfolding insert
events_put n [] = refl
events_put n (m ∷ ms) = go (events_put n ms) (leb (at n) (at m))
  where
    go : events (put n ms) ≡ insert n.event (events ms) → (b : Bool)
        → events (cond b (n ∷ m ∷ ms) (m ∷ put n ms)) ≡ cond b (n.event ∷ m.event ∷ events ms) (m.event ∷ insert n.event (events ms))
    go more true = refl
    go more false = ap (◌∷◌ m.event) more

events_order : (k : ℕ) (os : List Occurrence) → events (in_order k os) ≡ by_instant os
unfolding by_instant
events_order k [] = refl
events_order k (o ∷ os) = events_put (numbered o k) (in_order (k + 1) os) ∙ ap (insert o) (events_order (k + 1) os)

events_length : (ms : List Numbered) → length (events ms) ≡ length ms
events_length [] = refl
events_length (m ∷ ms) = ap suc (events_length ms)

-- each number is k or more
abbrev Numbers : ℕ → List Numbered → Type 0
Numbers k [] = Unit {0}
Numbers k (m ∷ ms) = (k ≤ m.number) × Numbers k ms

numbers_less : (j k : ℕ) (ms : List Numbered) → j ≤ k → Numbers k ms → Numbers j ms
numbers_less j k [] h l = tt
numbers_less j k (m ∷ ms) h l = (omega (arith, l.0), numbers_less j k ms h l.1)

put_numbers : (k : ℕ) (n : Numbered) (ms : List Numbered) → k ≤ n.number → Numbers k ms → Numbers k (put n ms)
put_numbers k n [] h l = (h, tt)
put_numbers k n (m ∷ ms) h l = go (put_numbers k n ms h l.1) (leb (at n) (at m))
  where
    go : Numbers k (put n ms) → (b : Bool) → Numbers k (cond b (n ∷ m ∷ ms) (m ∷ put n ms))
    go more true = (h, l)
    go more false = (l.0, more)

order_numbers : (k : ℕ) (os : List Occurrence) → Numbers k (in_order k os)
order_numbers k [] = tt
order_numbers k (o ∷ os) =
    put_numbers k (numbered o k) (in_order (k + 1) os) (omega arith) (numbers_less k (k + 1) (in_order (k + 1) os) (omega arith) (order_numbers (k + 1) os))

-- ---- those behind a place, with one more

put_out : (a x : ℕ) (n : Numbered) (ms : List Numbered) → hence a x n ≡ false → from a x (put n ms) ≡ from a x ms
put_out a x n [] h = from_out a x n [] h
put_out a x n (m ∷ ms) h = go (put_out a x n ms h) (leb (at n) (at m))
  where
    go : from a x (put n ms) ≡ from a x ms → (b : Bool) → from a x (cond b (n ∷ m ∷ ms) (m ∷ put n ms)) ≡ from a x (m ∷ ms)
    go more true = from_out a x n (m ∷ ms) h
    go more false = ap (λ (r : List Numbered). cond (hence a x m) (m ∷ r) r) more

put_in : (a x : ℕ) (n : Numbered) (ms : List Numbered) → hence a x n ≡ true → Numbers (n.number + 1) ms → from a x (put n ms) ≡ put n (from a x ms)
put_in a x n [] h l = from_in a x n [] h
put_in a x n (m ∷ ms) h l = go (put_in a x n ms h l.1) (leb (at n) (at m)) refl (hence a x m) refl
  where
    go : from a x (put n ms) ≡ put n (from a x ms) → (b : Bool) → leb (at n) (at m) ≡ b → (c : Bool) → hence a x m ≡ c
        → from a x (cond b (n ∷ m ∷ ms) (m ∷ put n ms)) ≡ put n (from a x (m ∷ ms))
    go more true p c q =
        let k = l.0 in
        let i : hence a x m ≡ true = behind_also a x (at n) n.number (at m) m.number h (behind_by (at n) n.number (at m) m.number (leb-true (at n) (at m) p) (omega arith)) in
        from_in a x n (m ∷ ms) h ∙ ap (◌∷◌ n) (from_in a x m ms i) ∙ sym (ap (put n) (from_in a x m ms i) ∙ put_front n m (from a x ms) p)
    go more false p true q =
        from_in a x m (put n ms) q ∙ ap (◌∷◌ m) more ∙ sym (ap (put n) (from_in a x m ms q) ∙ put_behind n m (from a x ms) p)
    go more false p false q = from_out a x m (put n ms) q ∙ more ∙ sym (ap (put n) (from_out a x m ms q))

-- ---- the best is the first of those behind the place

-- the earlier of two, the left one on ties
abbrev pick : Option (Occurrence × ℕ) → Option (Occurrence × ℕ) → Option (Occurrence × ℕ)
pick b None = b
pick b (Some (o, i)) = cond (better b o) (Some (o, i)) b

pick_none : (b : Option (Occurrence × ℕ)) → pick None b ≡ b
pick_none None = refl
pick_none (Some (o, i)) = refl

pick_also : (b : Option (Occurrence × ℕ)) (o : Occurrence) (k : ℕ) (c : Option (Occurrence × ℕ)) → pick (pick b (Some (o, k))) c ≡ pick b (pick (Some (o, k)) c)
pick_also b o k None = refl
pick_also None o k (Some (p, i)) = go (ltb (instant p) (instant o))
  where
    go : (v : Bool) → cond v (Some (p, i)) (Some (o, k)) ≡ pick None (cond v (Some (p, i)) (Some (o, k)))
    go true = refl
    go false = refl
pick_also (Some (q, j)) o k (Some (p, i)) = go (ltb (instant o) (instant q)) refl (ltb (instant p) (instant o)) refl
  where
    go : (u : Bool) → ltb (instant o) (instant q) ≡ u → (v : Bool) → ltb (instant p) (instant o) ≡ v
        → pick (cond u (Some (o, k)) (Some (q, j))) (Some (p, i)) ≡ pick (Some (q, j)) (cond v (Some (p, i)) (Some (o, k)))
    go true a true b =
        let h = ltb-true (instant o) (instant q) a in
        let l = ltb-true (instant p) (instant o) b in
        simp (b, lt-ltb (instant p) (instant q) (omega arith))
    go true a false b = simp (a, b)
    go false a true b = refl
    go false a false b =
        let h = ltb-false (instant o) (instant q) a in
        let l = ltb-false (instant p) (instant o) b in
        simp (a, le-ltb (instant p) (instant q) (omega arith))

first_put : (n : Numbered) (ms : List Numbered) → first (put n ms) ≡ pick (Some (n.event, n.number)) (first ms)
first_put n [] = refl
first_put n (m ∷ ms) = go (leb (at n) (at m)) refl
  where
    go : (b : Bool) → leb (at n) (at m) ≡ b → first (cond b (n ∷ m ∷ ms) (m ∷ put n ms)) ≡ pick (Some (n.event, n.number)) (Some (m.event, m.number))
    go true h = simp (le-ltb (at m) (at n) (leb-true (at n) (at m) h))
    go false h = simp (lt-ltb (at m) (at n) (leb-false (at n) (at m) h))

one_more : (a x k : ℕ) (b : Option (Occurrence × ℕ)) (o : Occurrence) (ms : List Numbered) → Numbers (k + 1) ms
    → pick (cond (from_here a x o k && better b o) (Some (o, k)) b) (first (from a x ms)) ≡ pick b (first (from a x (put (numbered o k) ms)))
one_more a x k b o ms l = go (from_here a x o k) refl
  where
    go : (y : Bool) → from_here a x o k ≡ y
        → pick (cond (y && better b o) (Some (o, k)) b) (first (from a x ms)) ≡ pick b (first (from a x (put (numbered o k) ms)))
    go true h =
        pick_also b o k (first (from a x ms))
        ∙ ap (pick b) (sym (ap first (put_in a x (numbered o k) ms h l) ∙ first_put (numbered o k) (from a x ms)))
    go false h = ap (λ (r : List Numbered). pick b (first r)) (sym (put_out a x (numbered o k) ms h))

best_first : (s : Search) (os : List Occurrence) → (sought s os).best ≡ pick s.best (first (from s.at.0 s.index (in_order s.count os)))
unfolding sought
best_first s [] = refl
best_first s (o ∷ os) = best_first (met s o) os ∙ one_more s.at.0 s.index s.count s.best o (in_order (s.count + 1) os) (order_numbers (s.count + 1) os)

-- ---- in order each comes behind the one before

abbrev AllHence : ℕ → ℕ → List Numbered → Type 0
AllHence a x [] = Unit {0}
AllHence a x (m ∷ ms) = (hence a x m ≡ true) × AllHence a x ms

abbrev Rising : List Numbered → Type 0
Rising [] = Unit {0}
Rising (m ∷ ms) = AllHence (at m) (m.number + 1) ms × Rising ms

all_also : (a x : ℕ) (n : Numbered) (ms : List Numbered) → hence a x n ≡ true → AllHence (at n) (n.number + 1) ms → AllHence a x ms
all_also a x n [] h l = tt
all_also a x n (m ∷ ms) h l = (behind_also a x (at n) n.number (at m) m.number h l.0, all_also a x n ms h l.1)

put_all : (a x : ℕ) (n : Numbered) (ms : List Numbered) → hence a x n ≡ true → AllHence a x ms → AllHence a x (put n ms)
put_all a x n [] h l = (h, tt)
put_all a x n (m ∷ ms) h l = go (put_all a x n ms h l.1) (leb (at n) (at m))
  where
    go : AllHence a x (put n ms) → (b : Bool) → AllHence a x (cond b (n ∷ m ∷ ms) (m ∷ put n ms))
    go more true = (h, l)
    go more false = (l.0, more)

put_rising : (n : Numbered) (ms : List Numbered) → Numbers (n.number + 1) ms → Rising ms → Rising (put n ms)
put_rising n [] l r = (tt, tt)
put_rising n (m ∷ ms) l r = go (put_rising n ms l.1 r.1) (leb (at n) (at m)) refl
  where
    go : Rising (put n ms) → (b : Bool) → leb (at n) (at m) ≡ b → Rising (cond b (n ∷ m ∷ ms) (m ∷ put n ms))
    go more true h =
        let k = l.0 in
        let i = behind_by (at n) n.number (at m) m.number (leb-true (at n) (at m) h) (omega arith) in
        ((i, all_also (at n) (n.number + 1) m ms i r.0), r)
    go more false h = (put_all (at m) (m.number + 1) n ms (behind_later (at m) (m.number + 1) (at n) n.number (leb-false (at n) (at m) h)) r.0, more)

order_rising : (k : ℕ) (os : List Occurrence) → Rising (in_order k os)
order_rising k [] = tt
order_rising k (o ∷ os) = put_rising (numbered o k) (in_order (k + 1) os) (order_numbers (k + 1) os) (order_rising (k + 1) os)

-- ---- behind the first of those behind a place are the others

from_all : (a x : ℕ) (ms : List Numbered) → AllHence a x ms → from a x ms ≡ ms
from_all a x [] l = refl
from_all a x (m ∷ ms) l = from_in a x m ms l.0 ∙ ap (◌∷◌ m) (from_all a x ms l.1)

from_first : (a x : ℕ) (ns : List Numbered) (m : Numbered) (ms : List Numbered) → from a x ns ≡ m ∷ ms → hence a x m ≡ true
from_first a x [] m ms e = absurd (nil≢cons e)
from_first a x (n ∷ ns) m ms e = go (from_first a x ns m ms) (hence a x n) refl
  where
    go : (from a x ns ≡ m ∷ ms → hence a x m ≡ true) → (b : Bool) → hence a x n ≡ b → hence a x m ≡ true
    go more true h = ap (hence a x) (sym (head-eq_of_cons-eq (sym (from_in a x n ns h) ∙ e))) ∙ h
    go more false h = more (sym (from_out a x n ns h) ∙ e)

from_next : (a x : ℕ) (ns : List Numbered) (m : Numbered) (ms : List Numbered) → Rising ns → from a x ns ≡ m ∷ ms → from (at m) (m.number + 1) ns ≡ ms
from_next a x [] m ms r e = absurd (nil≢cons e)
from_next a x (n ∷ ns) m ms r e = go (from_next a x ns m ms r.1) (hence a x n) refl
  where
    go : (from a x ns ≡ m ∷ ms → from (at m) (m.number + 1) ns ≡ ms) → (b : Bool) → hence a x n ≡ b → from (at m) (m.number + 1) (n ∷ ns) ≡ ms
    go more true h =
        let q = sym (from_in a x n ns h) ∙ e in
        ap (λ (k : Numbered). from (at k) (k.number + 1) (n ∷ ns)) (sym (head-eq_of_cons-eq q))
        ∙ from_out (at n) (n.number + 1) n ns (not_behind_itself (at n) n.number)
        ∙ from_all (at n) (n.number + 1) ns r.0
        ∙ sym (from_all a x ns (all_also a x n ns h r.0))
        ∙ tail-eq_of_cons-eq q
    go more false h =
        let q = sym (from_out a x n ns h) ∙ e in
        from_out (at m) (m.number + 1) n ns (before_also a x (at m) m.number (at n) n.number (from_first a x ns m ms q) h) ∙ more q

-- ---- one after the other

best_behind : (os : List Occurrence) (a x : ℕ) → (sought (begin a x) os).best ≡ first (from a x (in_order 0 os))
best_behind os a x = best_first (begin a x) os ∙ pick_none (first (from a x (in_order 0 os)))

turns : (os : List Occurrence) (n a x : ℕ) (ms : List Numbered) → from a x (in_order 0 os) ≡ ms → length ms ≤ n → in_turn os n (first ms) ≡ events ms
unfolding in_turn
turns os zero a x [] e h = refl
turns os zero a x (m ∷ ms) e h = absurd (omega arith)
turns os (suc n) a x [] e h = refl
turns os (suc n) a x (m ∷ ms) e h =
    let next = from_next a x (in_order 0 os) m ms (order_rising 0 os) e in
    ap (◌∷◌ m.event) (ap (in_turn os n) (best_behind os (at m) (m.number + 1) ∙ ap first next) ∙ turns os n (at m) (m.number + 1) ms next (omega arith))

all_hence : (ms : List Numbered) → AllHence 0 0 ms
all_hence [] = tt
all_hence (m ∷ ms) = (behind_start (at m) m.number, all_hence ms)

-- seeking one after the other gives the order
pub in_turn_law : (os : List Occurrence) → all_in_turn os (length os) ≡ by_instant os
in_turn_law os =
    let all = from_all 0 0 (in_order 0 os) (all_hence (in_order 0 os)) in
    let n : length (in_order 0 os) ≡ length os = sym (events_length (in_order 0 os)) ∙ ap length (events_order 0 os) ∙ length_sorted os in
    ap (in_turn os (length os)) (best_behind os 0 0 ∙ ap first all) ∙ turns os (length os) 0 0 (in_order 0 os) all (omega (arith, n)) ∙ events_order 0 os
