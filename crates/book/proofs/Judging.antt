-- The tests of a record by its kind, and what each says of the record that stands there. Assumes nothing.
use mathlib.Core.Path.{◌≡◌, refl, sym, ap, ap₂, ◌∙◌}
use mathlib.Core.Bool.{Bool, true, false, not, ◌&&◌, ◌||◌}
use mathlib.Core.List.{List}
use Prim.Native.Nat.{ℕ, zero, suc, ◌+◌}
use native.Mathlib.Omega.{arith}
use borrow.Author.Tests.{eqb-true}
use lib.ListN.{length}
use lib.Dec.{ltb, leb, eqb}
use Rattle.std.proofs.lemmas.Bool.Decides.{nat_tests}
use mir.Syntax.{Width, w32, w64}
use Rattle.std.specs.Prelude.{Some}
use Rattle.std.specs.Ordering.{partial_lt, nat_cmp}
use Rattle.wire.specs.declared.sign.Placed.{Placed}
use Rattle.wire.specs.Fields.{field}
use Rattle.wire.specs.Signs.{half, meant, turned, signed}
use Rattle.wire.proofs.Signs.{order_lt, order_le}
use Rattle.records.specs.Layout.{number, integer, tag, nanoseconds, count, time, step, day_first, day_last, coverage_start, coverage_end, coverage_kind, rule_kind, event_kind, is_dated, is_rule}
use Rattle.records.specs.Records.{rule, rule_at, record_at, published_at, points_at, times_at}
use Rattle.records.specs.Book.{inside, kind_at, bad_uncertainty, late, late_start, reversed, covers_nothing, last_published, most_width}
use Rattle.records.specs.Frame.{Framed, items_at, placed_range}
use Rattle.records.proofs.Tests.{outside_test, above_test}
use Rattle.records.proofs.Frames.{Kind, one, two, three, four, kind_of_law, is_one, is_two, is_three, is_four, dated, undated}

-- ---- 4: the parts of a test, as the code reads them

-- outside a range: what the comparisons say
pub outside_says : (low high : ℕ) (p : Placed ℕ) (r : Bool)
    → r ≡ (partial_lt (λ (x y : ℕ). Some (nat_cmp x y)) p.0 low || partial_lt (λ (x y : ℕ). Some (nat_cmp x y)) high p.0)
    → r ≡ (ltb p.0 low || ltb high p.0)
outside_says low high p r e = grind (arith, nat_tests)

-- and what they say of a two's-complement field that was read
pub outside_read : (w : Width) (low high b : ℕ) (p : Placed ℕ) (r : Bool)
    → r ≡ (partial_lt (λ (x y : ℕ). Some (nat_cmp x y)) p.0 low || partial_lt (λ (x y : ℕ). Some (nat_cmp x y)) high p.0)
    → p ≡ record { 0 = turned w b } → r ≡ not (inside (placed_range w low high) (signed w b))
outside_read w low high b p r e q =
    outside_says low high p r e ∙ ap (λ (j : Placed ℕ). ltb j.0 low || ltb high j.0) q ∙ outside_test w low high (turned w b)

-- the uncertainty of a tag, a placed number and a text
uncertain : (tag p text : ℕ)
    → ((ltb last_published tag || (ltb p (half w64) || ltb (half w64 + most_width) p)) || (((eqb tag 0 || eqb tag 3) && ltb (half w64) p) || (ltb tag 2 && not (eqb text 0))))
    ≡ bad_uncertainty (record { tag = tag; nanoseconds = meant w64 p; text = text })
unfolding meant
uncertain tag p text = rw (outside_test w64 (half w64) (half w64 + most_width) p, above_test w64 (half w64) p)

module _ (s : List ℕ) (at k : ℕ) where
  pub uncertain_at : (p a b c : ℕ) → p ≡ (tag k).from → a ≡ field 1 s (at + p) → b ≡ turned w64 (field 8 s (at + p + 1)) → c ≡ field 2 s (at + p + 9)
      → ((ltb last_published a || (ltb b (half w64) || ltb (half w64 + most_width) b)) || (((eqb a 0 || eqb a 3) && ltb (half w64) b) || (ltb a 2 && not (eqb c 0))))
      ≡ bad_uncertainty (published_at k s at)
  uncertain_at p a b c e q r t =
      let y : at + p + 1 ≡ at + ((tag k).from + 1) = omega arith in
      let z : at + p + 9 ≡ at + ((tag k).from + 1 + 8) = omega arith in
      uncertain a b c
      ∙ ap bad_uncertainty
      (ap₂ (λ (i j : ℕ). record { tag = i; nanoseconds = meant w64 j; text = c }) (q ∙ ap (λ (i : ℕ). field 1 s (at + i)) e) (r ∙ ap (λ (i : ℕ). turned w64 (field 8 s i)) y)
      ∙ ap (λ (i : ℕ). record { tag = number (tag k) s at; nanoseconds = integer w64 (nanoseconds k) s at; text = i }) (t ∙ ap (λ (i : ℕ). field 2 s i) z))

-- so many points and times are read
pub points_length : (s : List ℕ) (at n : ℕ) → length (points_at s at n) ≡ n
unfolding points_at
points_length s at zero = refl
points_length s at (suc n) = ap suc (points_length s (at + step rule_kind) n)

pub times_length : (s : List ℕ) (at n : ℕ) → length (times_at s at n) ≡ n
unfolding times_at
times_length s at zero = refl
times_length s at (suc n) = ap suc (times_length s (at + step event_kind) n)

module _ (s : List ℕ) (at k : ℕ) (f : Framed s at) (e : k ≡ kind_at s at) where
  -- ---- 5

  pub never_late : is_rule k ≡ false → false ≡ late_start (record_at s at)
  never_late n = go (kind_of_law s at k f e)
    where
      go : Kind k → false ≡ late_start (record_at s at)
      go (one i) = rw (is_one s at k f e i)
      go (two i) = rw (is_two s at k f e i)
      go (three i) = let y : is_rule k ≡ true = rw i in absurd (let z : ◌≡◌ {A = ℕ} 0 1 = cc in omega arith)
      go (four i) = rw (is_four s at k f e i)

  module _ (is : is_rule k ≡ true) where
    i : k ≡ rule_kind
    i = eqb-true k rule_kind is

    items_three : items_at s at ≡ number (count rule_kind) s at
    items_three = let z : kind_at s at ≡ rule_kind = sym e ∙ i in rw z

    late_by : (b : Bool) → b ≡ late (points_at s at (number (count rule_kind) s at)) → b ≡ late_start (record_at s at)
    late_by b q = q ∙ sym (ap late_start (is_three s at k f e i))

    pub late_none : items_at s at ≡ 0 → true ≡ late_start (record_at s at)
    unfolding points_at
    late_none z = let n : number (count rule_kind) s at ≡ 0 = sym items_three ∙ z in late_by true (rw n)

    late_points : (n : ℕ) → (n ≡ 0 → ⊥) → not (eqb (number (time rule_kind) s at) 0) ≡ late (points_at s at n)
    unfolding points_at
    late_points zero z = absurd (z refl)
    late_points (suc n) z = refl

    pub late_some : (items_at s at ≡ 0 → ⊥) → (t : ℕ) → t ≡ number (time k) s at → not (eqb t 0) ≡ late_start (record_at s at)
    late_some z t q =
        let r : t ≡ number (time rule_kind) s at = q ∙ ap (λ (j : ℕ). number (time j) s at) i in
        late_by (not (eqb t 0)) (rw r (late_points (number (count rule_kind) s at) (λ n. z (items_three ∙ n))))

  -- ---- 7

  pub never_reversed : is_dated k ≡ false → false ≡ reversed (record_at s at)
  never_reversed h = go (kind_of_law s at k f e)
    where
      go : Kind k → false ≡ reversed (record_at s at)
      go (one i) = rw (is_one s at k f e i)
      go (two i) = rw (is_two s at k f e i)
      go (three i) = absurd (omega (arith, undated s at k f e h))
      go (four i) = absurd (omega (arith, undated s at k f e h))

  pub reversed_by : is_dated k ≡ true → ltb (turned w32 (number day_last s at)) (turned w32 (number day_first s at)) ≡ reversed (record_at s at)
  reversed_by h = sym (order_lt w32 (turned w32 (number day_last s at)) (turned w32 (number day_first s at))) ∙ go (kind_of_law s at k f e)
    where
      go : Kind k → reversed (rule (rule_at s at)) ≡ reversed (record_at s at)
      go (one i) = absurd (omega (arith, dated s at k f e h))
      go (two i) = absurd (omega (arith, dated s at k f e h))
      go (three i) = rw (is_three s at k f e i)
      go (four i) = rw (is_four s at k f e i)

  -- ---- 8

  pub no_coverage : (k ≡ coverage_kind → ⊥) → false ≡ covers_nothing (record_at s at)
  no_coverage n = go (kind_of_law s at k f e)
    where
      go : Kind k → false ≡ covers_nothing (record_at s at)
      go (one i) = absurd (n i)
      go (two i) = rw (is_two s at k f e i)
      go (three i) = rw (is_three s at k f e i)
      go (four i) = rw (is_four s at k f e i)

  pub covers_by : k ≡ coverage_kind → leb (turned w64 (number coverage_end s at)) (turned w64 (number coverage_start s at)) ≡ covers_nothing (record_at s at)
  covers_by i =
      sym (order_le w64 (turned w64 (number coverage_end s at)) (turned w64 (number coverage_start s at))) ∙ sym (ap covers_nothing (is_one s at k f e i))
