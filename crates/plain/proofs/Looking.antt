-- The tests, one point and one date after the other, as the code looks at them. Assumes nothing.
use mathlib.Core.Path.{◌≡◌, refl, sym, ap, ap₂, subst, ◌∙◌}
use mathlib.Core.Bool.{Bool, true, false, ◌&&◌, ◌||◌}
use mathlib.Core.List.{List}
use Rattle.std.specs.Prelude.{Option}
use Prim.Native.Nat.{ℕ, zero, suc, ◌+◌, ◌-◌, ◌≤◌, ◌<◌}
use native.Mathlib.Decide.{dec_lt}
use native.Mathlib.Numerals.{add-one}
use native.Mathlib.Omega.{arith}
use borrow.Author.Tests.{lt-ltb, le-ltb, le-leb, lt-leb}
use lib.Dec.{leb, ltb}
use lib.ListN.{length, get_or, drop}
use lib.Seq.{drop-cons, drop-length}
use Rattle.wire.proofs.Signs.{and_no}
use Rattle.zone.specs.Zone.{Zone, date_at}
use Rattle.zone.specs.Throughout.{reads_throughout}
use Rattle.zone.specs.Answers.{boundary_at}
use Rattle.zone.specs.declared.Boundary.{Boundary}
use Rattle.zone.specs.declared.Uncertainty.TheVariants.{Exact}
use Rattle.records.specs.Records.{Point, Rule}
use Rattle.venue.specs.Reading.{midnight}
use Rattle.spans.specs.Timeline.{Venue, Part}
use Rattle.day.specs.Days.{Held, venue_by}
use Rattle.plain.specs.Plain.{PlainDate, PlainWindow}
use Rattle.plain.specs.Deciding.{Decides, rises, in_order, taken_at, plain_between, plain_date, reaches, most_dates, plain_from, plain_window}
use Rattle.plain.specs.Private.{PlainUntil}
use Rattle.plain.proofs.Deciding.{no_test, decides_once, decides_not, date_decides, Reached, reach_decides, window_decides}

-- the instants of a converted time, and of a midnight
pub taken_by : (z : Zone) (d : ℕ) {x y : ℕ} {b : Boundary} → b ≡ boundary_at z d x Exact → x ≡ y → b.at.0 ≡ taken_at z d y
taken_by z d e p = ap (λ (b : Boundary). b.at.0) e ∙ ap (taken_at z d) p

pub midnight_by : (z : Zone) (d : ℕ) {b : Boundary} → b ≡ boundary_at z d 0 Exact → b.at.0 ≡ taken_at z d 0
midnight_by z d e = ap (λ (b : Boundary). b.at.0) e

-- ---- points

module _ (conv : ℕ → ℕ) (hi lo i : ℕ) (ps : List Point) where
  module _ (h : i < length ps) {x : ℕ} (e : x ≡ conv (get_or ps i midnight).time) where
    rises_at : rises conv lo hi (drop i ps) ≡ (leb lo x && rises conv x hi (drop (suc i) ps))
    unfolding rises
    rises_at = ap (rises conv lo hi) (drop-cons ps i midnight h) ∙ sym (ap (λ (y : ℕ). leb lo y && rises conv y hi (drop (suc i) ps)) e)

    pub rises_stops : x < lo → rises conv lo hi (drop i ps) ≡ false
    rises_stops l = rises_at ∙ rw (lt-leb lo x l)

    pub rises_goes : lo ≤ x → rises conv lo hi (drop i ps) ≡ rises conv x hi (drop (i + 1) ps)
    rises_goes l = rises_at ∙ rw (le-leb lo x l, add-one i)

  pub rises_end : length ps ≤ i → i ≤ length ps → rises conv lo hi (drop i ps) ≡ leb lo hi
  unfolding rises
  rises_end h k = let j : i ≡ length ps = omega arith in ap (rises conv lo hi) (ap (λ (m : ℕ). drop m ps) j ∙ drop-length ps)

-- ---- dates

module _ (z : Zone) (g : ℕ → Option Rule) where
  abbrev v : Venue Held
  v = venue_by z g

  -- midnights of plain dates do not fall
  climbs : (n d : ℕ) → ((i : ℕ) → d ≤ i → i < d + n → PlainDate v i) → taken_at z d 0 ≤ taken_at z (d + n) 0
  climbs zero d run = let e : d + 0 ≡ d = omega arith in omega (arith, ap (λ (i : ℕ). taken_at z i 0) e)
  climbs (suc n) d run =
      let e : d + suc n ≡ suc (d + n) = omega arith in
      let on = climbs n d (λ i a b. run i a (omega arith)) in
      omega (arith, on, (run (d + n) (omega arith) (omega arith)).rising, ap (λ (i : ℕ). taken_at z i 0) e)

  -- one look at a date
  pub look_plain : (d last : ℕ) → d < last → plain_date z g d ≡ true → PlainUntil v d last (d + 1)
  look_plain d last h e =
      record {
        most = omega arith;
        run = λ i a b. let s : d ≡ i = omega arith in subst (PlainDate v) s ((date_decides z g d).yes e);
        stops = λ l. absurd (omega arith);
      }

  pub look_not : (d last : ℕ) → d < last → plain_date z g d ≡ false → PlainUntil v d last d
  look_not d last h e =
      record {
        most = omega arith;
        run = λ i a b. absurd (omega arith);
        stops = λ l p. no_test (sym e ∙ (date_decides z g d).no p);
      }

  -- whether the dates from d to before `last` reach the end
  abbrev pub left : ℕ → ℕ → ℕ → Bool
  left end last d = reaches z g end (last - d) d

  pub left_first : (end last d : ℕ) → last ≡ d + suc most_dates → {r : Bool} → left end last d ≡ r → r ≡ reaches z g end (suc most_dates) d
  left_first end last d e f = let n : last - d ≡ suc most_dates = omega arith in sym f ∙ ap (λ (k : ℕ). reaches z g end k d) n

  pub left_none : (end last d : ℕ) → last ≤ d → left end last d ≡ false
  unfolding reaches
  left_none end last d h = let n : last - d ≡ 0 = omega arith in ap (λ (k : ℕ). reaches z g end k d) n

  module _ (end last d r : ℕ) (h : d < last) (u : PlainUntil v d last r) where
    pub left_stops : r ≤ d → left end last d ≡ false
    left_stops l = decides_not (left end last d) (reach_decides z g end (last - d) d) (λ k. u.stops l (k.run d (omega arith) k.from))

    module _ (l : d < r) {x : ℕ} (e : x ≡ taken_at z (r - 1) 0) where
      pub left_ends : end ≤ x → left end last d ≡ true
      left_ends m =
          (reach_decides z g end (last - d) d).no
          (record {
            last = r - 1;
            from = omega arith;
            few = omega (arith, u.most);
            run = λ i a b. u.run i a (omega arith);
            closes = omega (arith, e);
          })

      pub left_goes : x < end → left end last d ≡ left end last r
      left_goes m =
          decides_once (left end last d) (left end last r) (reach_decides z g end (last - d) d)
          (record { yes = λ k. back ((reach_decides z g end (last - r) r).yes k); no = λ k. (reach_decides z g end (last - r) r).no (on k) })
        where
          back : Reached z g end (last - r) r → Reached z g end (last - d) d
          back k =
              record {
                last = k.last;
                from = omega (arith, k.from);
                few = omega (arith, k.few, u.most);
                run = λ i a b. split i a b (dec_lt i r);
                closes = k.closes;
              }
            where
              split : (i : ℕ) → d ≤ i → i ≤ k.last → Dec (i < r) → PlainDate v i
              split i a b (yes c) = u.run i a c
              split i a b (no c) = k.run i (omega arith) b

          on : Reached z g end (last - d) d → Reached z g end (last - r) r
          on k = go (dec_lt k.last r)
            where
              go : Dec (k.last < r) → Reached z g end (last - r) r
              go (yes c) =
                  let f : k.last + (r - 1 - k.last) ≡ r - 1 = omega arith in
                  let w = climbs (r - 1 - k.last) k.last (λ i a b. u.run i (omega (arith, k.from)) (omega arith)) in
                  absurd (omega (arith, w, ap (λ (i : ℕ). taken_at z i 0) f, k.closes, e))
              go (no c) =
                  record { last = k.last; from = omega arith; few = omega (arith, k.few); run = λ i a b. k.run i (omega arith) b; closes = k.closes }

  -- the midnight of the date before, if that is plain, is not asked
  from_before : (end n d : ℕ) → 0 < d → taken_at z d 0 < end → reaches z g end (suc n) (d - 1) ≡ (plain_date z g (d - 1) && reaches z g end n d)
  unfolding reaches
  from_before end n d h l = go (plain_date z g (d - 1)) refl
    where
      go : (p : Bool) → plain_date z g (d - 1) ≡ p
          → (p && (leb end (taken_at z (d - 1) 0) || reaches z g end n (suc (d - 1)))) ≡ (p && reaches z g end n d)
      go true e =
          let i : suc (d - 1) ≡ d = omega arith in
          let m = ((date_decides z g (d - 1)).yes e).rising in
          rw (lt-leb end (taken_at z (d - 1) 0) (omega (arith, m, ap (λ (j : ℕ). taken_at z j 0) i)), i)
      go false e = refl

  -- ---- as the code puts them together

  pub date_by : (d : ℕ) {a b : ℕ} {p q : Bool} → a ≡ taken_at z d 0 → b ≡ taken_at z (suc d) 0 → p ≡ in_order (taken_at z d) a b (g d)
      → q ≡ reads_throughout z d a b
      → ((leb a b && p) && q) ≡ plain_date z g d
  unfolding plain_date
  date_by d {a} {b} {p} {q} i j e f = ap₂ (λ (x y : Bool). (leb a b && x) && y) e f ∙ ap₂ (plain_between z g d) i j

  module _ (start end d : ℕ) (order : start < end) (is : d ≡ date_at z start) where
    abbrev w : Part
    w = record { start = start; end = end }

    abbrev Decided : Bool → Type 0
    Decided r = Decides r (PlainWindow v w)

    decided : (r : Bool) → plain_from z g w d ≡ r → Decided r
    unfolding plain_window
    decided r e = subst Decided (sym (ap (plain_from z g w) is) ∙ e) (window_decides z g w order)

    pub no_yesterday : d ≡ 0 → Decided false
    no_yesterday e = decided false (simp (le-ltb 0 d (omega arith)))

    -- its midnight, as it was found
    pub early_start : {x : ℕ} → x ≡ taken_at z d 0 → start < x → Decided false
    early_start {x} f h = decided false (rw (sym f, lt-leb x start h, and_no (ltb 0 d)))

    -- the date before is plain, and those from there on
    pub as_run : {x : ℕ} → x ≡ taken_at z d 0 → (d ≡ 0 → ⊥) → x ≤ start → {r : Bool} → r ≡ reaches z g end (suc most_dates) (d - 1) → Decided r
    as_run {x} f n h {r} q =
        decided r
        (rw (lt-ltb 0 d (omega arith), le-leb (taken_at z d 0) start (omega (arith, f))) (sym (q ∙ from_before end most_dates d (omega arith) (omega (arith, f)))))
