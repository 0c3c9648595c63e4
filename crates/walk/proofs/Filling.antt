-- An array filled with a date's boundaries, one after the other. Assumes nothing.
use mathlib.Core.Path.{◌≡◌, refl, sym, ap, ap₂, ◌∙◌, subst}
use mathlib.Core.Bool.{Bool, true, ◌&&◌}
use mathlib.Core.List.{List, ◌++◌}
use mathlib.Core.Logic.{◌↔◌}
use Prim.Native.Nat.{ℕ, suc, ◌+◌, ◌≤◌, ◌<◌, max}
use native.Mathlib.Decide.{dec_lt}
use native.Mathlib.Nat.{zero-add}
use native.Mathlib.Numerals.{add-one}
use native.Mathlib.Omega.{arith}
use lib.ListN.{length, set, drop, length-set}
use lib.Seq.{paste, paste-suc, take-length}
use Rattle.wire.specs.Fields.{wrote}
use Rattle.wire.proofs.Signs.{and_true}
use Rattle.zone.specs.Zone.{Zone, resolve}
use Rattle.zone.specs.Units.{nearest_reading, reading_at}
use Rattle.zone.specs.Answers.{taken, uncertain}
use Rattle.zone.specs.declared.Resolution.{Resolution}
use Rattle.zone.specs.declared.Resolution.TheVariants.{Clear, Fold, Gap}
use Rattle.zone.specs.declared.Uncertainty.{Uncertainty}
use Rattle.zone.specs.declared.Uncertainty.TheVariants.{Exact}
use Rattle.records.specs.Records.{Rule}
use Rattle.walk.specs.Walking as Walking
use Rattle.walk.specs.Walking.{edge_instants, is_exact, ClearDate}
use Rattle.walk.proofs.Edges.{instant_at, before, point_at, edges_length, instant_next, instant_last}

module _ (z : Zone) (r : Rule) (d : ℕ) where
  -- the first i of them stand in a, which was old; b is the last of these
  pub record Filling (old a : List ℕ) (b i : ℕ) : Type 0 where
    pub long : length a ≡ length old
    pub most : i ≤ length r.points
    pub same : a ≡ paste old 0 (edge_instants z r d) i
    pub last : b ≡ before z r d i

  module _ (old a : List ℕ) (b i x : ℕ) (f : Filling old a b i) (long : length r.points < length old) (some_in : 1 ≤ length r.points) where
    stores : x ≡ instant_at z r d i → set a i x ≡ paste old 0 (edge_instants z r d) (suc i)
    stores e =
        let m = f.most in
        let l = edges_length z r d some_in in
        let q = zero-add i in
        ap₂ (λ (l : List ℕ) (y : ℕ). set l i y) f.same e
        ∙ ap (λ (j : ℕ). set (paste old 0 (edge_instants z r d) i) j (instant_at z r d i)) (sym q)
        ∙ paste-suc old 0 (edge_instants z r d) i 0 (omega arith) (omega arith)

    pub filling_next : (y : ℕ) → i < length r.points → x ≡ max b y
        → y ≡ taken (resolve z (nearest_reading (reading_at d (point_at z r d i).time))) → Filling old (set a i x) x (i + 1)
    filling_next y h e q =
        let g : x ≡ instant_at z r d i = e ∙ ap₂ max f.last q ∙ sym (instant_next z r d i h) in
        record {
          long = length-set a i x ∙ f.long;
          most = omega arith;
          same = stores g ∙ ap (paste old 0 (edge_instants z r d)) (sym (add-one i));
          last = g ∙ ap (before z r d) (sym (add-one i));
        }

    pub filled : (n y : ℕ) → n ≡ length r.points → n ≤ i → x ≡ max b y → y ≡ taken (resolve z (nearest_reading (reading_at (suc d) 0)))
        → set a n x ≡ wrote old 0 (edge_instants z r d)
    unfolding wrote
    filled n y h k e q =
        let m = f.most in
        let o : i ≡ length r.points = omega arith in
        let u : n ≡ i = omega arith in
        let g : x ≡ instant_at z r d i =
        e ∙ ap₂ max f.last q ∙ sym (subst (λ (j : ℕ). instant_at z r d j ≡ max (before z r d j) (taken (resolve z (nearest_reading (reading_at (suc d) 0))))) (sym o) (instant_last z r d some_in))
        in
        let l : suc i ≡ length (edge_instants z r d) = ap suc o ∙ sym (edges_length z r d some_in) in
        ap (λ (j : ℕ). set a j x) u ∙ stores g ∙ ap (paste old 0 (edge_instants z r d)) l
        ∙ ap (λ (es : List ℕ). es ++ drop (0 + length (edge_instants z r d)) old) (take-length (edge_instants z r d))

-- ---- none in doubt

-- an exact time stays exact exactly where it has one instant, and then every time stays as published
pub exact_clear : (r : Resolution) → (is_exact (uncertain r Exact) ≡ true) ↔ ((u : Uncertainty) → uncertain r u ≡ u)
exact_clear r = (to r, λ c. ap is_exact (c Exact))
  where
    to : (x : Resolution) → is_exact (uncertain x Exact) ≡ true → (u : Uncertainty) → uncertain x u ≡ u
    to (Clear t) e u = refl
    to (Fold d) e u = absurd (let n : ◌≡◌ {A = ℕ} 0 1 = cc in omega arith)
    to (Gap d) e u = absurd (let n : ◌≡◌ {A = ℕ} 0 1 = cc in omega arith)

and_both : (a b : Bool) → ((a && b) ≡ true) ↔ ((a ≡ true) × (b ≡ true))
and_both a b = (and_true a b, λ p. ap₂ ◌&&◌ p.0 p.1)

-- by the uncertainty of an exact time
module _ (z : Zone) (d x : ℕ) {u : Uncertainty} (is : u ≡ uncertain (resolve z (nearest_reading (reading_at d x))) Exact) {more : Bool} (so : more ≡ is_exact u) where
  time_clear : (more ≡ true) ↔ Walking.ClearTime z d x
  time_clear =
      let e : more ≡ is_exact (uncertain (resolve z (nearest_reading (reading_at d x))) Exact) = so ∙ ap is_exact is in
      let c = exact_clear (resolve z (nearest_reading (reading_at d x))) in
      (λ q. c.0 (sym e ∙ q), λ k. e ∙ c.1 k)

module _ (z : Zone) (r : Rule) (d : ℕ) where
  -- `clear` exactly where none of the first i points is
  abbrev pub ClearTo : Bool → ℕ → Type 0
  ClearTo clear i = (clear ≡ true) ↔ ((j : ℕ) → j < i → Walking.ClearTime z d (point_at z r d j).time)

  module _ (clear more : Bool) (i : ℕ) (c : ClearTo clear i) where
    pub clear_next : (u : Uncertainty) → u ≡ uncertain (resolve z (nearest_reading (reading_at d (point_at z r d i).time))) Exact
        → more ≡ is_exact u → ClearTo (clear && more) (i + 1)
    clear_next u e f =
        let own = time_clear z d (point_at z r d i).time e f in
        let both = and_both clear more in (
          λ q j h. go (c.0 (both.0 q).0) (own.0 (both.0 q).1) j (dec_lt j i) h,
          λ k. both.1 (c.1 (λ j h. k j (omega arith)), own.1 (k i (omega arith))),
        )
      where
        go : ((j : ℕ) → j < i → Walking.ClearTime z d (point_at z r d j).time) → Walking.ClearTime z d (point_at z r d i).time → (j : ℕ) → Dec (j < i)
            → j < i + 1 → Walking.ClearTime z d (point_at z r d j).time
        go a k j (yes l) h = a j l
        go a k j (no l) h = let o : j ≡ i = omega arith in rw o k

    pub clear_all : i ≡ length r.points → (u : Uncertainty) → u ≡ uncertain (resolve z (nearest_reading (reading_at (suc d) 0))) Exact
        → more ≡ is_exact u → ((clear && more) ≡ true) ↔ ClearDate z r d
    clear_all l u e f =
        let last = time_clear z (suc d) 0 e f in
        let both = and_both clear more in (
          λ q. record { points = λ j h. c.0 (both.0 q).0 j (omega arith); midnight = last.0 (both.0 q).1 },
          λ k. both.1 (c.1 (λ j h. k.points j (omega arith)), last.1 k.midnight),
        )
