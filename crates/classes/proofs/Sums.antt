-- Rows counted one after the other. Assumes nothing.
use mathlib.Core.Path.{◌≡◌, refl, ap, ◌∙◌}
use mathlib.Core.Bool.{Bool, true, false, cond}
use mathlib.Core.List.{List, [], ◌∷◌}
use Prim.Native.Nat.{ℕ, ◌+◌, ◌≤◌, ◌<◌}
use native.Mathlib.Omega.{arith}
use lib.Dec.{eqb}
use lib.ListN.{length}
use Rattle.std.specs.Prelude.{Ok}
use Rattle.rows.specs.Rows.{Row, good_mark, good_rows, segments_at, rows}
use Rattle.rows.specs.Telling.{good_on, mark_at, rows_at}
use Rattle.rows.proofs.Turns.{mark_holds}
use Rattle.rows.proofs.Laws.{rows_marked, rows_first}
use Rattle.classes.specs.Classes.{class_at, class_number, one, number_of, counted}
use Rattle.classes.specs.Reading.{Only, Another, Added, count_told}
use Rattle.classes.specs.declared.Class.{Class}
use Rattle.classes.specs.declared.Class.TheVariants.{Trading, NotTrading, NotKnown, NotShown}
use Rattle.classes.specs.declared.counting.Counts.{Counts}

one_most : (x y : Class) → one x y ≤ 1
one_most x y = go (eqb (class_number x) (class_number y))
  where
    go : (b : Bool) → cond b 1 0 ≤ 1
    go true = omega arith
    go false = omega arith

module _ (s : List ℕ) (t : ℕ) where
  -- how many of the rows from `at` on are of the class x: of the one that begins there, and of those behind it
  abbrev from : Class → ℕ → ℕ
  from x at = one x (class_at (segments_at s at) t) + number_of x (rows_at s (mark_at s at)) t

  -- the sum of the rows before `at`, and those from there on, are all
  pub record Summing (at : ℕ) (sum : Counts) : Type 0 where
    pub good : good_rows s ≡ good_on true s at 0 0
    pub inside : at ≤ length s
    pub venues : sum.venues + (1 + length (rows_at s (mark_at s at))) ≡ length (rows s)
    pub trading : sum.trading + from Trading at ≡ number_of Trading (rows s) t
    pub not_trading : sum.not_trading + from NotTrading at ≡ number_of NotTrading (rows s) t
    pub not_known : sum.not_known + from NotKnown at ≡ number_of NotKnown (rows s) t
    pub few : sum.venues < at
    pub few_trading : sum.trading ≤ sum.venues
    pub few_not_trading : sum.not_trading ≤ sum.venues
    pub few_not_known : sum.not_known ≤ sum.venues

  pub sum_start : good_mark s 0 ≡ true → Summing 6 (record { venues = 0; trading = 0; not_trading = 0; not_known = 0 })
  unfolding number_of
  sum_start m =
      let e = rows_first s m in
      record {
        good = rows_marked s m;
        inside = (mark_holds s 0 m).0;
        venues = omega (arith, ap length e);
        trading = omega (arith, ap (λ (rs : List Row). number_of Trading rs t) e);
        not_trading = omega (arith, ap (λ (rs : List Row). number_of NotTrading rs t) e);
        not_known = omega (arith, ap (λ (rs : List Row). number_of NotKnown rs t) e);
        few = omega arith;
        few_trading = omega arith;
        few_not_trading = omega arith;
        few_not_known = omega arith;
      }

  module _ {at : ℕ} {sum : Counts} (o : Summing at sum) where
    module _ {x : Class} {sum' : Counts} (p : Added sum x sum') where
      -- another row follows
      pub sum_on : {b : ℕ} → Another true s at t x b → Summing b sum'
      unfolding number_of
      sum_on {b} a =
          let e = a.rows in
          let one-is : (y : Class) → one y x ≡ one y (class_at (segments_at s at) t) = λ y. ap (one y) a.shown in
          record {
            good = o.good ∙ a.good;
            inside = a.inside;
            venues = omega (arith, ap length e, o.venues, p.venues);
            trading = omega (arith, ap (λ (rs : List Row). number_of Trading rs t) e, o.trading, p.trading, one-is Trading);
            not_trading = omega (arith, ap (λ (rs : List Row). number_of NotTrading rs t) e, o.not_trading, p.not_trading, one-is NotTrading);
            not_known = omega (arith, ap (λ (rs : List Row). number_of NotKnown rs t) e, o.not_known, p.not_known, one-is NotKnown);
            few = omega (arith, o.few, a.after, p.venues);
            few_trading = omega (arith, one_most Trading x, o.few_trading, p.trading, p.venues);
            few_not_trading = omega (arith, one_most NotTrading x, o.few_not_trading, p.not_trading, p.venues);
            few_not_known = omega (arith, one_most NotKnown x, o.few_not_known, p.not_known, p.venues);
          }

      -- none does: all rows are counted
      pub sum_end : Only true s at t x → count_told (Ok sum') ≡ counted (rows s) t
      unfolding number_of
      sum_end a =
          let e = a.rows in
          let one-is : (y : Class) → one y x ≡ one y (class_at (segments_at s at) t) = λ y. ap (one y) a.shown in
          let venues : sum'.venues ≡ length (rows s) = omega (arith, ap length e, o.venues, p.venues) in
          let trading : sum'.trading ≡ number_of Trading (rows s) t = omega (arith, ap (λ (rs : List Row). number_of Trading rs t) e, o.trading, p.trading, one-is Trading) in
          let not_trading : sum'.not_trading ≡ number_of NotTrading (rows s) t = omega (arith, ap (λ (rs : List Row). number_of NotTrading rs t) e, o.not_trading, p.not_trading, one-is NotTrading) in
          let not_known : sum'.not_known ≡ number_of NotKnown (rows s) t = omega (arith, ap (λ (rs : List Row). number_of NotKnown rs t) e, o.not_known, p.not_known, one-is NotKnown) in
          rw (venues, trading, not_trading, not_known)

-- every row is of one class: the rows of none of the three that are counted show nothing
pub all_classed : (rs : List Row) (t : ℕ)
    → number_of Trading rs t + number_of NotTrading rs t + number_of NotKnown rs t + number_of NotShown rs t ≡ length rs
unfolding number_of
all_classed [] t = refl
all_classed (r ∷ rs) t = let on = all_classed rs t in let o = one_of (class_at r.segments t) in omega arith
  where
    one_of : (y : Class) → one Trading y + one NotTrading y + one NotKnown y + one NotShown y ≡ 1
    one_of Trading = refl
    one_of NotTrading = refl
    one_of NotKnown = refl
    one_of NotShown = refl
