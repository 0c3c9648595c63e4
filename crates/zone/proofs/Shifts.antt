-- Where no transition is near, reading and converting are shifts by one offset. Assumes nothing.
use Rattle.std.proofs.Common.{◌≡◌, ℕ, zero, suc, ◌+◌, ◌-◌, ◌*◌, ◌/◌, ◌^◌, ◌<◌, ◌≤◌, Bool, true, false, cond, not, ◌&&◌, ltb, leb, List, [], ◌∷◌, length, get_or, sym, refl, ap, ◌∙◌, subst, le_of_suc-le-suc, not-suc-le-zero, arith, le-ltb, lt-ltb, le-leb, leb-true}
use Rattle.std.specs.Prelude.{Option, None, Some}
use native.Mathlib.Nat.{suc_inj}
use native.Mathlib.Decide.{dec_le}
use borrow.Author.Tests.{lt-leb}
use Rattle.calendar.specs.Answers.{last_day}
use Rattle.zone.specs.Units.{day_ns, most_offset, most_offset_ns, offset_ns, nearest_instant, nearest_reading, reading_at}
use Rattle.zone.specs.Zone.{Change, Zone, changes_of, zone_of, last_offset, offset_at, date_at, resolve}
use Rattle.zone.specs.Answers.{After, Spaced, Valid, boundary, boundary_at}
use Rattle.zone.specs.Private.{Passed}
use Rattle.zone.specs.Steady.{margin_ns, first_steady, last_steady, none_within, steady_of, day_by, midnight_by, OnWall, DayOnWall}
use Rattle.zone.specs.declared.Resolution.{Resolution}
use Rattle.zone.specs.declared.Resolution.TheVariants.{Clear}
use Rattle.zone.specs.declared.Uncertainty.{Uncertainty}
use Rattle.zone.proofs.Offsets.{first_least, passed_rest, offset_most}
use Rattle.zone.proofs.Readings.{resolve_steady}

-- ---- the test, as the code makes it: k transitions have passed at a

-- a transition at or before a, one after b, and one between
pub past : (a b x : ℕ) (rest : Bool) → x ≤ a → (not (ltb a x && leb x b) && rest) ≡ rest
past a b x rest h = ap (λ (c : Bool). not (c && leb x b) && rest) (le-ltb a x h)

beyond : (a b x : ℕ) (rest : Bool) → a < x → b < x → (not (ltb a x && leb x b) && rest) ≡ rest
beyond a b x rest h i = simp (lt-ltb a x h, lt-leb x b i)

pub between : (a b x : ℕ) (rest : Bool) → a < x → x ≤ b → (not (ltb a x && leb x b) && rest) ≡ false
between a b x rest h i = simp (lt-ltb a x h, le-leb x b i)

next_later : (b x : ℕ) (ats : List ℕ) → After x ats → b < x → b < 2 ^ 64 → b < get_or ats 0 (2 ^ 64)
next_later b x [] s h f = f
next_later b x (y ∷ ats) s h f = omega arith

pub none_true : (a b k : ℕ) (ats os : List ℕ) → Spaced ats → Passed ats a k → a < 2 ^ 64 → b < 2 ^ 64 → b < get_or ats k (2 ^ 64)
    → none_within a b (changes_of ats os) ≡ true
unfolding none_within
none_true a b k [] os s p h f l = refl
none_true a b k (x ∷ ats) [] s p h f l = refl
none_true a b zero (x ∷ ats) (q ∷ os) s p h f l =
    let later : Passed ats a 0 = record { most = omega arith; last = omega arith; next = next_later a x ats s.0 p.next h } in
    beyond a b x (none_within a b (changes_of ats os)) p.next l ∙ none_true a b zero ats os s.1 later h f (next_later b x ats s.0 l f)
none_true a b (suc k) (x ∷ ats) (q ∷ os) s p h f l =
    past a b x (none_within a b (changes_of ats os)) (omega (arith, first_least x ats k s p.most, p.last))
    ∙ none_true a b k ats os s.1 (passed_rest a k x ats p) h f l

pub none_false : (a b k : ℕ) (ats os : List ℕ) → Spaced ats → length ats ≡ length os → Passed ats a k → k < length ats → get_or ats k 0 ≤ b
    → none_within a b (changes_of ats os) ≡ false
unfolding none_within
none_false a b k [] os s e p h l = absurd (not-suc-le-zero h)
none_false a b k (x ∷ ats) [] s e p h l = absurd (omega arith)
none_false a b zero (x ∷ ats) (q ∷ os) s e p h l = between a b x (none_within a b (changes_of ats os)) p.next l
none_false a b (suc k) (x ∷ ats) (q ∷ os) s e p h l =
    past a b x (none_within a b (changes_of ats os)) (omega (arith, first_least x ats k s p.most, p.last))
    ∙ none_false a b k ats os s.1 (suc_inj e) (passed_rest a k x ats p) (le_of_suc-le-suc h) l

-- where the next one stands, as the code reads it
pub next_near : (ats : List ℕ) (k b : ℕ) → get_or ats k 18446744073709551615 ≤ b → b < 18446744073709551615
    → (k < length ats) × (get_or ats k 0 ≤ b)
next_near [] k b h i = absurd (omega arith)
next_near (x ∷ ats) zero b h i = (omega arith, h)
next_near (x ∷ ats) (suc k) b h i = let on = next_near ats k b h i in (omega (arith, on.0), on.1)

-- what the code answers
pub steady_early : (z : Zone) (from to : ℕ) → from < first_steady → steady_of z from to ≡ None
unfolding steady_of
steady_early z from to h = simp (lt-leb first_steady from h)

pub steady_late : (z : Zone) (from to : ℕ) → first_steady ≤ from → last_steady < to → steady_of z from to ≡ None
unfolding steady_of
steady_late z from to g h = simp (le-leb first_steady from g, lt-leb to last_steady h)

pub steady_not : (z : Zone) (from to : ℕ) → first_steady ≤ from → to ≤ last_steady
    → none_within (from - margin_ns) (to + margin_ns) z.changes ≡ false → steady_of z from to ≡ None
unfolding steady_of
steady_not z from to g h e = simp (le-leb first_steady from g, le-leb to last_steady h, e)

pub steady_by : (z : Zone) (from to o : ℕ) → first_steady ≤ from → to ≤ last_steady
    → none_within (from - margin_ns) (to + margin_ns) z.changes ≡ true
    → offset_at z (from - margin_ns) ≡ o → steady_of z from to ≡ Some o
unfolding steady_of
steady_by z from to o g h e i = simp (le-leb first_steady from g, le-leb to last_steady h, e, i)

-- ---- what it means

-- from a to b the offset stays
pub stays : (o a b t : ℕ) (cs : List Change) → none_within a b cs ≡ true → a ≤ t → t ≤ b → last_offset o cs t ≡ last_offset o cs a
unfolding none_within last_offset
stays o a b t [] e h i = refl
stays o a b t (c ∷ cs) e h i = go (λ p r. stays p a b t cs r h i) (dec_le c.at a) (dec_le c.at b)
  where
    go : ((p : ℕ) → none_within a b cs ≡ true → last_offset p cs t ≡ last_offset p cs a) → Dec (c.at ≤ a) → Dec (c.at ≤ b)
        → last_offset o (c ∷ cs) t ≡ last_offset o (c ∷ cs) a
    go on (yes l) d =
        ap (λ (v : Bool). last_offset (cond v c.offset o) cs t) (le-leb c.at t (omega arith))
        ∙ on c.offset (sym (past a b c.at (none_within a b cs) l) ∙ e)
        ∙ sym (ap (λ (v : Bool). last_offset (cond v c.offset o) cs a) (le-leb c.at a l))
    go on (no l) (yes m) = let wrong : false ≡ true = sym (between a b c.at (none_within a b cs) (omega arith) m) ∙ e in cc
    go on (no l) (no m) =
        ap (λ (v : Bool). last_offset (cond v c.offset o) cs t) (lt-leb c.at t (omega arith))
        ∙ on o (sym (beyond a b c.at (none_within a b cs) (omega arith) (omega arith)) ∙ e)
        ∙ sym (ap (λ (v : Bool). last_offset (cond v c.offset o) cs a) (lt-leb c.at a (omega arith)))

-- the stretch is well inside the instants in use, and the offset is o from 56 hours before it to 56 hours after it
pub record SteadyOver (z : Zone) (from to o : ℕ) : Type 0 where
  pub early : first_steady ≤ from
  pub late : to ≤ last_steady
  pub same : (t : ℕ) → from ≤ t + margin_ns → t ≤ to + margin_ns → offset_at z t ≡ o

abbrev IsNone : Option ℕ → Type 0
IsNone None = Unit {0}
IsNone (Some o) = ⊥

not_some : (o : ℕ) → None ≡ Some o → ⊥
not_some o e = subst IsNone e tt

pub steady_over : (z : Zone) (from to o : ℕ) → from ≤ to → steady_of z from to ≡ Some o → SteadyOver z from to o
unfolding steady_of
steady_over z from to o h e =
    go (leb first_steady from) (leb to last_steady) (none_within (from - margin_ns) (to + margin_ns) z.changes) refl refl refl e
  where
    go : (p q n : Bool) → leb first_steady from ≡ p → leb to last_steady ≡ q → none_within (from - margin_ns) (to + margin_ns) z.changes ≡ n
        → cond (p && q) (cond n (Some (offset_at z (from - margin_ns))) None) None ≡ Some o → SteadyOver z from to o
    go true true true i j k m =
        let early = leb-true first_steady from i in
        let is : offset_at z (from - margin_ns) ≡ o = cc in
        record {
          early = early;
          late = leb-true to last_steady j;
          same = λ t a b. stays z.first (from - margin_ns) (to + margin_ns) t z.changes k (omega arith) b ∙ is;
        }
    go true true false i j k m = absurd (not_some o m)
    go true false n i j k m = absurd (not_some o m)
    go false q n i j k m = absurd (not_some o m)

-- dates of such instants
day_low : (o t d : ℕ) → o ≤ 2 * most_offset → first_steady ≤ t → day_by o t ≤ d → 3 ≤ d
day_low o t d h i j = omega arith

day_high : (o t d : ℕ) → o ≤ 2 * most_offset → t ≤ last_steady → d ≤ suc (day_by o t) → d ≤ last_day + 5
day_high o t d h i j = omega arith

-- their readings, and how far from the instants these are
reading_plain : (d x : ℕ) → 3 ≤ d → d ≤ last_day + 5 → x ≤ day_ns → nearest_reading (reading_at d x) ≡ d * day_ns + x
reading_plain d x h i j = omega arith

far_enough : (d x : ℕ) → 3 ≤ d → most_offset_ns ≤ d * day_ns + x
far_enough d x h = omega arith

behind_midnight : (o d x : ℕ) → o ≤ 2 * most_offset → 3 ≤ d → d * day_ns + x + most_offset_ns - offset_ns o ≡ midnight_by o d + x
behind_midnight o d x h i = omega arith

not_past : (d x e : ℕ) → d * day_ns + x ≤ suc e * day_ns → d ≤ suc e
not_past d x e h = omega arith

-- what ends by a date's last midnight: its times, and the next midnight
pub in_date : (d x e : ℕ) → d ≤ e → x ≤ day_ns → d * day_ns + x ≤ suc e * day_ns
in_date d x e h i = omega arith

pub next_midnight : (d e : ℕ) → d ≤ e → suc d * day_ns + 0 ≤ suc e * day_ns
next_midnight d e h = omega arith

near_low : (o from d x t : ℕ) → o ≤ 2 * most_offset → first_steady ≤ from → day_by o from ≤ d → d * day_ns + x - most_offset_ns ≤ t
    → from ≤ t + margin_ns
near_low o from d x t h i j k = omega arith

near_high : (o to d x t : ℕ) → o ≤ 2 * most_offset → d * day_ns + x ≤ suc (day_by o to) * day_ns → first_steady ≤ to → t ≤ d * day_ns + x + most_offset_ns
    → t ≤ to + margin_ns
near_high o to d x t h i l k = omega arith

module _ (first : ℕ) (ats os : List ℕ) (ok : Valid first ats os) (from to o : ℕ) (h : from ≤ to)
    (e : steady_of (zone_of first ats os) from to ≡ Some o) where
  abbrev z : Zone
  z = zone_of first ats os

  over : SteadyOver z from to o
  over = steady_over z from to o h e

  most : o ≤ 2 * most_offset
  most = let same = over.same from (omega arith) (omega arith) in omega (arith, same, offset_most first ats os from ok)

  -- an instant of the stretch
  pub steady_in : (t : ℕ) → from ≤ t → t ≤ to → OnWall o t
  steady_in t a b = (most, omega (arith, over.early), omega (arith, over.late))

  -- reads its date by the offset
  pub steady_date : (t : ℕ) → from ≤ t → t ≤ to → date_at z t ≡ day_by o t
  steady_date t a b =
      let n : nearest_instant t ≡ t = omega (arith, over.early, over.late) in
      let same = over.same t (omega arith) (omega arith) in
      ap (λ (u : ℕ). (u + offset_ns (offset_at z u) - most_offset_ns) / day_ns) n ∙ ap (λ (p : ℕ). (t + offset_ns p - most_offset_ns) / day_ns) same

  -- a date from that of the first instant to the one after that of the last
  pub steady_day_in : (d : ℕ) → date_at z from ≤ d → d ≤ suc (date_at z to) → DayOnWall o d
  steady_day_in d a b = (
    most,
    day_low o from d most over.early (subst (λ (k : ℕ). k ≤ d) (steady_date from (omega arith) h) a),
    day_high o to d most over.late (subst (λ (k : ℕ). d ≤ suc k) (steady_date to h (omega arith)) b),
  )

  -- converts by the offset, up to the midnight that ends the last date
  pub steady_boundary : (d x : ℕ) (u : Uncertainty) → date_at z from ≤ d → x ≤ day_ns → d * day_ns + x ≤ suc (date_at z to) * day_ns
      → boundary_at z d x u ≡ record { at = record { 0 = midnight_by o d + x }; uncertainty = u }
  steady_boundary d x u a c b =
      let i = subst (λ (k : ℕ). k ≤ d) (steady_date from (omega arith) h) a in
      let j = subst (λ (k : ℕ). d * day_ns + x ≤ suc k * day_ns) (steady_date to h (omega arith)) b in
      let in_use = steady_day_in d a (not_past d x (date_at z to) b) in
      let w = d * day_ns + x in
      let shifted = resolve_steady first ats os ok w (far_enough d x in_use.1) o
      (λ t p q. over.same t (near_low o from d x t most over.early i p) (near_high o to d x t most j (omega (arith, over.early, h)) q)) in
      ap (λ (r : ℕ). boundary (resolve z r) u) (reading_plain d x in_use.1 in_use.2 c)
      ∙ ap (λ (r : Resolution). boundary r u) shifted
      ∙ ap (λ (t : ℕ). boundary (Clear (record { 0 = t })) u) (behind_midnight o d x most in_use.1)
