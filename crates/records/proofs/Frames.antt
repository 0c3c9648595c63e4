-- What a record whose length is right holds. Assumes nothing.
use mathlib.Core.Path.{◌≡◌, refl, sym, ap, ap₂, ◌∙◌}
use mathlib.Core.Bool.{Bool, true, false, not, cond, ◌||◌}
use mathlib.Core.List.{List}
use Prim.Native.Nat.{ℕ, ◌+◌, ◌*◌, ◌≤◌, ◌<◌}
use native.Mathlib.Nat.{add-zero}
use native.Mathlib.Decide.{ℕ_discrete}
use native.Mathlib.Omega.{arith}
use borrow.Author.Tests.{le-ltb, ltb-false, eq-eqb, ne_eqb, eqb-true, not-false}
use lib.ListN.{length}
use lib.Dec.{ltb, eqb}
use Rattle.wire.specs.Fields.{field}
use Rattle.records.specs.Layout.{number, size, by, count, step, length_of, coverage_kind, transition_kind, rule_kind, event_kind, head_size, coverage_size, transition_size, time, is_dated, is_rule}
use Rattle.records.specs.Records.{coverage, transition, rule, event, coverage_at, transition_at, rule_at, event_at, record_at}
use Rattle.records.specs.Book.{kind_at, next_at, bad_frame}
use Rattle.records.specs.Frame.{Framed, items_at}
use Rattle.records.proofs.Tests.{or_false}

-- ---- the frame

pub size_by : (s : List ℕ) (at z : ℕ) → z ≡ field 2 s at → z ≡ number size s at
size_by s at z a = a ∙ ap (field 2 s) (sym (add-zero at))

pub framed : (s : List ℕ) (at : ℕ) → bad_frame s at ≡ false → Framed s at
unfolding bad_frame
framed s at e =
    let p = or_false (ltb (length s) (at + head_size) || ltb (length s) (next_at s at)) _ e in
    let q = or_false (ltb (length s) (at + head_size)) (ltb (length s) (next_at s at)) p.0 in
    let r = or_false (ltb (kind_at s at) coverage_kind || ltb event_kind (kind_at s at)) _ p.1 in
    let k = or_false (ltb (kind_at s at) coverage_kind) (ltb event_kind (kind_at s at)) r.0 in
    record {
      kind_low = ltb-false (kind_at s at) coverage_kind k.0;
      kind_high = ltb-false event_kind (kind_at s at) k.1;
      head = ltb-false _ _ q.0;
      whole = ltb-false _ _ q.1;
      sized = eqb-true _ _ (not-false _ r.1);
    }

-- the test, as the code reads it: a record whose length is not right
pub unframed : (s : List ℕ) (at : ℕ) → (Framed s at → ⊥) → true ≡ bad_frame s at
unframed s at n = go (bad_frame s at) refl
  where
    go : (q : Bool) → bad_frame s at ≡ q → true ≡ bad_frame s at
    go true e = sym e
    go false e = absurd (n (framed s at e))

-- of a known kind, where the bytes go so far
pub frame_sized : (s : List ℕ) (at : ℕ) → at + head_size ≤ length s → (z k n : ℕ) → z ≡ field 2 s at → at + 2 + z ≤ length s → k ≡ kind_at s at → coverage_kind ≤ k → k ≤ event_kind
    → n ≡ 2 + length_of k (number (count k) s at) → not (eqb (2 + z) n) ≡ bad_frame s at
unfolding bad_frame
frame_sized s at h z k n a w b low high e =
    let l = length_of (kind_at s at) (number (count (kind_at s at)) s at) in
    let m : n ≡ 2 + l = e ∙ ap (λ (i : ℕ). 2 + length_of i (number (count i) s at)) b in
    let y : eqb (2 + z) n ≡ eqb (number size s at) l = ap₂ (λ (i j : ℕ). eqb (2 + i) j) (size_by s at z a) m ∙ both_more 2 (number size s at) l in
    let p : ltb (kind_at s at) coverage_kind ≡ false = le-ltb (kind_at s at) coverage_kind (omega arith) in
    let q : ltb event_kind (kind_at s at) ≡ false = le-ltb event_kind (kind_at s at) (omega arith) in
    rw (le-ltb (length s) (at + head_size) h, le-ltb (length s) (next_at s at) (omega (arith, size_by s at z a)), p, q, y)
  where
    both_more : (i x y : ℕ) → eqb (i + x) (i + y) ≡ eqb x y
    both_more i x y =
        elim (ℕ_discrete x y) [
          | yes q ↦ eq-eqb (i + x) (i + y) (ap (◌+◌ i) q) ∙ sym (eq-eqb x y q)
          | no q ↦ ne_eqb (i + x) (i + y) (λ r. q (omega arith)) ∙ sym (ne_eqb x y q)
        ]

-- a kind is 1, 2, 3 or 4
pub data Kind (k : ℕ) : Type 0 where
  one : k ≡ coverage_kind → Kind k
  two : k ≡ transition_kind → Kind k
  three : k ≡ rule_kind → Kind k
  four : k ≡ event_kind → Kind k

kind_in : (k : ℕ) → coverage_kind ≤ k → k ≤ event_kind → Kind k
kind_in k l h =
    elim (ℕ_discrete k coverage_kind) [
      | yes e ↦ one e
      | no a ↦ elim (ℕ_discrete k transition_kind) [ yes e ↦ two e | no b ↦ elim (ℕ_discrete k rule_kind) [ yes e ↦ three e | no c ↦ four (omega arith) ] ]
    ]

-- a record of kind k whose length is right lies in the bytes, with its points or times
module _ (s : List ℕ) (at k : ℕ) (f : Framed s at) (e : k ≡ kind_at s at) where
  pub kind_of_law : Kind k
  kind_of_law = kind_in k (omega (arith, f.kind_low)) (omega (arith, f.kind_high))

  sized : number size s at ≡ length_of k (number (count k) s at)
  sized = rw e f.sized

  pub room1 : k ≡ coverage_kind → at + coverage_size ≤ length s
  room1 i = let z : number size s at ≡ length_of coverage_kind 0 = rw i at sized in omega (arith, f.whole)

  pub room2 : k ≡ transition_kind → at + transition_size ≤ length s
  room2 i = let z : number size s at ≡ length_of transition_kind 0 = rw i at sized in omega (arith, f.whole)

  pub next2 : k ≡ transition_kind → at + transition_size ≡ next_at s at
  next2 i = let z : number size s at ≡ length_of transition_kind 0 = rw i at sized in omega arith

  pub room3 : k ≡ rule_kind → at + (time rule_kind).from + step rule_kind * number (count rule_kind) s at ≤ length s
  room3 i = let z : number size s at ≡ length_of rule_kind (number (count rule_kind) s at) = rw i at sized in omega (arith, f.whole)

  pub room4 : k ≡ event_kind → at + (time event_kind).from + step event_kind * number (count event_kind) s at ≤ length s
  room4 i = let z : number size s at ≡ length_of event_kind (number (count event_kind) s at) = rw i at sized in omega (arith, f.whole)

  -- rules and events
  pub dated : is_dated k ≡ true → rule_kind ≤ k
  dated h = go kind_of_law
    where
      not_so : {b : Bool} → b ≡ true → b ≡ false → rule_kind ≤ k
      not_so p q = absurd (let z : ◌≡◌ {A = ℕ} 0 1 = cc in omega arith)

      go : Kind k → rule_kind ≤ k
      go (one i) = not_so h (rw i)
      go (two i) = not_so h (rw i)
      go (three i) = omega arith
      go (four i) = omega arith

  pub undated : is_dated k ≡ false → k < rule_kind
  undated h = go kind_of_law
    where
      not_so : {b : Bool} → b ≡ false → b ≡ true → k < rule_kind
      not_so p q = absurd (let z : ◌≡◌ {A = ℕ} 0 1 = cc in omega arith)

      go : Kind k → k < rule_kind
      go (one i) = omega arith
      go (two i) = omega arith
      go (three i) = not_so h (rw i)
      go (four i) = not_so h (rw i)

  -- the field n
  pub few_items : is_dated k ≡ false → 0 ≡ items_at s at
  few_items h = rw⁻¹ e (go kind_of_law)
    where
      low : k < rule_kind
      low = undated h

      go : Kind k → 0 ≡ by k 0 0 (number (count k) s at) (number (count k) s at)
      go (one i) = rw i
      go (two i) = rw i
      go (three i) = absurd (omega (arith, low))
      go (four i) = absurd (omega (arith, low))

  pub many_items : is_dated k ≡ true → number (count k) s at ≡ items_at s at
  many_items h = rw⁻¹ e (go kind_of_law)
    where
      high : rule_kind ≤ k
      high = dated h

      go : Kind k → number (count k) s at ≡ by k 0 0 (number (count k) s at) (number (count k) s at)
      go (one i) = absurd (omega (arith, high))
      go (two i) = absurd (omega (arith, high))
      go (three i) = rw i
      go (four i) = rw i

  pub count_room : is_dated k ≡ true → at + (count k).from + 1 ≤ length s
  count_room h = go kind_of_law
    where
      high : rule_kind ≤ k
      high = dated h

      go : Kind k → at + (count k).from + 1 ≤ length s
      go (one i) = absurd (omega (arith, high))
      go (two i) = absurd (omega (arith, high))
      go (three i) = rw i (omega (arith, room3 i))
      go (four i) = rw i (omega (arith, room4 i))

  -- ---- the record

  pub is_one : k ≡ coverage_kind → record_at s at ≡ coverage (coverage_at s at)
  is_one i = let z : kind_at s at ≡ coverage_kind = sym e ∙ i in rw z

  pub is_two : k ≡ transition_kind → record_at s at ≡ transition (transition_at s at)
  is_two i = let z : kind_at s at ≡ transition_kind = sym e ∙ i in rw z

  pub is_three : k ≡ rule_kind → record_at s at ≡ rule (rule_at s at)
  is_three i = let z : kind_at s at ≡ rule_kind = sym e ∙ i in rw z

  pub is_four : k ≡ event_kind → record_at s at ≡ event (event_at s at)
  is_four i = let z : kind_at s at ≡ event_kind = sym e ∙ i in rw z

  pub the_fourth : (k ≡ coverage_kind → ⊥) → (k ≡ transition_kind → ⊥) → (k ≡ rule_kind → ⊥) → k ≡ event_kind
  the_fourth a b c = go kind_of_law
    where
      go : Kind k → k ≡ event_kind
      go (one i) = absurd (a i)
      go (two i) = absurd (b i)
      go (three i) = absurd (c i)
      go (four i) = i

-- a point takes no less than a time
pub step_least : (k : ℕ) → step event_kind ≤ step k
step_least k = go (is_rule k)
  where
    go : (b : Bool) → step event_kind ≤ cond b (step rule_kind) (step event_kind)
    go true = omega arith
    go false = omega arith

pub step_rule : (k : ℕ) → is_rule k ≡ true → step k ≡ step rule_kind
step_rule k i = rw i
