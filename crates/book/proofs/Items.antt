-- The points or times of a record, one after the other. Assumes nothing.
use mathlib.Core.Path.{◌≡◌, refl, sym, ap, ap₂, ◌∙◌}
use mathlib.Core.Bool.{Bool, true, false, ◌&&◌, ◌||◌}
use mathlib.Core.List.{List}
use Prim.Native.Nat.{ℕ, zero, suc, ◌+◌, ◌*◌, ◌-◌, ◌≤◌, ◌<◌}
use native.Mathlib.Nat.{suc-mul, sub-zero}
use native.Mathlib.Numerals.{add-one}
use native.Mathlib.Omega.{arith}
use borrow.Author.Tests.{le-ltb}
use lib.Dec.{ltb, leb, leb-suc-suc}
use Rattle.wire.proofs.Signs.{and_no}
use Rattle.records.specs.Layout.{number, count, time, step, rule_kind, event_kind, coverage_kind, transition_kind, is_rule, is_dated}
use Rattle.records.specs.Records.{record_at, points_at, times_at}
use Rattle.records.specs.Book.{kind_at, any, bad_time, bad_point, bad_items, falls_from, falls, falling}
use Rattle.records.specs.Frame.{Framed, items_at}
use Rattle.book.specs.Private.{bad_item, bad_from, falls_at}
use Rattle.records.proofs.Tests.{or_no}
use Rattle.records.proofs.Frames.{Kind, one, two, three, four, kind_of_law, few_items}
use Rattle.records.proofs.Frames.{is_one, is_two, is_three, is_four}

-- ---- the tests of a list, as they are made along the bytes

any_points : (s : List ℕ) (at n : ℕ) → bad_from s rule_kind at n ≡ any bad_point (points_at s at n)
unfolding bad_from points_at
any_points s at zero = refl
any_points s at (suc n) = ap (◌||◌ (bad_item s rule_kind at)) (any_points s (at + step rule_kind) n)

any_times : (s : List ℕ) (at n : ℕ) → bad_from s event_kind at n ≡ any bad_time (times_at s at n)
unfolding bad_from times_at
any_times s at zero = refl
any_times s at (suc n) = ap₂ ◌||◌ (or_no (bad_time (number (time event_kind) s at))) (any_times s (at + step event_kind) n)

ltb_suc : (a b : ℕ) → ltb a (b + 1) ≡ leb a b
ltb_suc a b = ap (ltb a) (add-one b) ∙ leb-suc-suc a b

falls_from_law : (s : List ℕ) (t at n : ℕ) → falls_at s rule_kind (t + 1) at n ≡ falls_from t (points_at s at n)
unfolding falls_at points_at
falls_from_law s t at zero = refl
falls_from_law s t at (suc n) = ap₂ ◌||◌ (ltb_suc (number (time rule_kind) s at) t) (falls_from_law s (number (time rule_kind) s at) (at + step rule_kind) n)

falls_points : (s : List ℕ) (at n : ℕ) → falls_at s rule_kind 0 at n ≡ falls (points_at s at n)
unfolding falls_at points_at
falls_points s at zero = refl
falls_points s at (suc n) =
    ap (λ (b : Bool). b || falls_at s rule_kind (number (time rule_kind) s at + 1) (at + step rule_kind) n) (le-ltb (number (time rule_kind) s at) 0 (omega arith))
    ∙ falls_from_law s (number (time rule_kind) s at) (at + step rule_kind) n

-- ---- the first i of n of them were looked at: the next stands at `item`

pub record Looked (s : List ℕ) (k at n i item least : ℕ) (fell : Bool) : Type 0 where
  pub few : i ≤ n
  pub place : item ≡ at + i * step k
  pub bad : bad_from s k at n ≡ bad_from s k item (n - i)
  pub fall : falls_at s k 0 at n ≡ (fell || falls_at s k least item (n - i))

pub looked_none : (s : List ℕ) (k at n : ℕ) → Looked s k at n 0 at 0 false
looked_none s k at n = record { few = omega arith; place = omega arith; bad = rw (sub-zero n); fall = rw (sub-zero n) }

or_assoc : (a b c : Bool) → (a || (b || c)) ≡ ((a || b) || c)
or_assoc true b c = refl
or_assoc false b c = refl

module _ {s : List ℕ} {k at n i item least : ℕ} {fell : Bool} (l : Looked s k at n i item least fell) where
  left_one : i < n → n - i ≡ suc (n - (i + 1))
  left_one h = omega arith

  pub looked_bad : i < n → bad_item s k item ≡ true → bad_from s k at n ≡ true
  unfolding bad_from
  looked_bad h b =
      l.bad ∙ ap (bad_from s k item) (left_one h) ∙ ap (λ (q : Bool). q || bad_from s k (item + step k) (n - (i + 1))) b

  pub looked_good : (t d : ℕ) → i < n → bad_item s k item ≡ false → t ≡ number (time k) s item → d ≡ step k
      → Looked s k at n (i + 1) (item + d) (t + 1) (fell || ltb t least)
  unfolding bad_from falls_at
  looked_good t d h b e q =
      let m = suc-mul i (step k) in
      record {
        few = omega arith;
        place = let p = l.place in let r : (i + 1) * step k ≡ i * step k + step k = rw (add-one i) m in omega arith;
        bad =
            l.bad ∙ ap (bad_from s k item) (left_one h) ∙ ap (λ (c : Bool). c || bad_from s k (item + step k) (n - (i + 1))) b
            ∙ ap (λ (j : ℕ). bad_from s k (item + j) (n - (i + 1))) (sym q);
        fall =
            l.fall ∙ ap (λ (j : ℕ). fell || falls_at s k least item j) (left_one h)
            ∙ or_assoc fell (ltb (number (time k) s item) least) (falls_at s k (number (time k) s item + 1) (item + step k) (n - (i + 1)))
            ∙ ap₂ (λ (x y : ℕ). (fell || ltb x least) || falls_at s k (x + 1) (item + y) (n - (i + 1))) (sym e) (sym q);
      }

  -- all of them were looked at
  module _ (h : n ≤ i) where
    no_left : n - i ≡ 0
    no_left = let f = l.few in omega arith

    pub looked_all : bad_from s k at n ≡ false
    unfolding bad_from
    looked_all = l.bad ∙ ap (bad_from s k item) no_left

    pub looked_falls : falls_at s k 0 at n ≡ fell
    unfolding falls_at
    looked_falls = l.fall ∙ ap (λ (j : ℕ). fell || falls_at s k least item j) no_left ∙ or_no fell

-- ---- what that says of the record

module _ (s : List ℕ) (at k n : ℕ) (f : Framed s at) (e : k ≡ kind_at s at) (q : n ≡ items_at s at) where
  none_of : is_dated k ≡ false → n ≡ 0
  none_of h = q ∙ sym (few_items s at k f e h)

  count_of : (j : ℕ) → k ≡ j → j ≡ rule_kind → n ≡ number (count rule_kind) s at
  count_of j i z = let y : kind_at s at ≡ rule_kind = sym e ∙ i ∙ z in q ∙ (rw y)

  count_four : k ≡ event_kind → n ≡ number (count event_kind) s at
  count_four i = let y : kind_at s at ≡ event_kind = sym e ∙ i in q ∙ (rw y)

  pub items_bad : bad_from s k at n ≡ bad_items (record_at s at)
  unfolding bad_from
  items_bad = go (kind_of_law s at k f e)
    where
      go : Kind k → bad_from s k at n ≡ bad_items (record_at s at)
      go (one i) = ap (bad_from s k at) (none_of (rw i)) ∙ sym (ap bad_items (is_one s at k f e i))
      go (two i) = ap (bad_from s k at) (none_of (rw i)) ∙ sym (ap bad_items (is_two s at k f e i))
      go (three i) = ap₂ (λ (x y : ℕ). bad_from s x at y) i (count_of k refl i) ∙ any_points s at (number (count rule_kind) s at) ∙ sym (ap bad_items (is_three s at k f e i))
      go (four i) = ap₂ (λ (x y : ℕ). bad_from s x at y) i (count_four i) ∙ any_times s at (number (count event_kind) s at) ∙ sym (ap bad_items (is_four s at k f e i))

  and_yes : (a : Bool) → (a && true) ≡ a
  and_yes true = refl
  and_yes false = refl

  pub items_fall : (falls_at s k 0 at n && is_rule k) ≡ falling (record_at s at)
  items_fall = go (kind_of_law s at k f e)
    where
      other : (j : ℕ) → k ≡ j → is_rule j ≡ false → (falls_at s k 0 at n && is_rule k) ≡ false
      other j i z = ap (λ (m : ℕ). falls_at s k 0 at n && is_rule m) i ∙ ap (◌&&◌ (falls_at s k 0 at n)) z ∙ and_no (falls_at s k 0 at n)

      go : Kind k → (falls_at s k 0 at n && is_rule k) ≡ falling (record_at s at)
      go (one i) = other coverage_kind i refl ∙ sym (ap falling (is_one s at k f e i))
      go (two i) = other transition_kind i refl ∙ sym (ap falling (is_two s at k f e i))
      go (three i) =
          ap (λ (m : ℕ). falls_at s k 0 at n && is_rule m) i ∙ and_yes (falls_at s k 0 at n)
          ∙ ap₂ (λ (x y : ℕ). falls_at s x 0 at y) i (count_of k refl i)
          ∙ falls_points s at (number (count rule_kind) s at)
          ∙ sym (ap falling (is_three s at k f e i))
      go (four i) = other event_kind i refl ∙ sym (ap falling (is_four s at k f e i))
