-- The tests of plain dates and of plain windows decide them. Assumes nothing.
use mathlib.Core.Path.{◌≡◌, refl, sym, subst}
use mathlib.Core.Bool.{Bool, true, false, ◌&&◌, ◌||◌}
use mathlib.Core.List.{List, [], ◌∷◌, map}
use Rattle.std.specs.Prelude.{Option, None, Some}
use Prim.Native.Nat.{ℕ, zero, suc, ◌+◌, ◌-◌, ◌≤◌, ◌<◌}
use native.Mathlib.Decide.{dec_lt, dec_le}
use native.Mathlib.Omega.{arith}
use borrow.Author.Tests.{leb-true, le-leb, lt-leb, ltb-true, lt-ltb}
use lib.Dec.{leb, ltb}
use lib.IntN.{ℤ}
use Rattle.wire.proofs.Signs.{and_true}
use Rattle.zone.specs.Clocks.{zone_in}
use Rattle.zone.specs.Zone.{Zone, zone_of, date_at}
use Rattle.zone.specs.Throughout.{reads_throughout}
use Rattle.zone.proofs.Throughout.{reads_all, all_read}
use Rattle.records.specs.Records.{Point, Rule, Coverage, rule_at}
use Rattle.records.specs.Book.{records}
use Rattle.venue.specs.Opening.{coverage_of, ats_of, offsets_of, rule_places}
use Rattle.venue.specs.Values.{rules_in}
use Rattle.venue.specs.Filled.{Holds}
use Rattle.venue.specs.declared.opened.Header.{Header}
use Rattle.venue.specs.declared.venue.Venue.{Venue as OpenVenue}
use Rattle.venue.proofs.Known.{Known}
use Rattle.spans.specs.Timeline.{Venue, Part, midnight}
use Rattle.day.specs.Governing.{governing_rule}
use Rattle.day.specs.Days.{Values, Held, values_of, venue_by, venue_of}
use Rattle.day.proofs.Opened.{stored_values, opened_values}
use Rattle.zone.specs.Units.{instant_of}
use Rattle.plain.specs.Plain.{Rises, InOrder, PlainDate, PlainWindow}
use Rattle.plain.specs.Books.{window, PlainFor, Plain}
use Rattle.plain.specs.Deciding.{Decides, rises, in_order, plain_date, reaches, most_dates, plain_from, plain_window, plain_for, plain}

-- ---- tests

pub no_test : {P : Type 0} → false ≡ true → P
no_test e = absurd (let z : ◌≡◌ {A = ℕ} 0 1 = cc in omega arith)

both : {P Q : Type 0} (p q : Bool) → Decides p P → Decides q Q → Decides (p && q) (P × Q)
both p q a b =
    record {
      yes = λ e. let x = and_true p q e in (a.yes x.0, b.yes x.1);
      no = λ h. rw (a.no h.0) (b.no h.1);
    }

order_decides : (a b : ℕ) → Decides (leb a b) (a ≤ b)
order_decides a b = record { yes = leb-true a b; no = le-leb a b }

-- no second test decides the same
pub decides_once : {P : Type 0} (a b : Bool) → Decides a P → Decides b P → a ≡ b
decides_once true b d e = sym (e.no (d.yes refl))
decides_once false true d e = d.no (e.yes refl)
decides_once false false d e = refl

pub decides_not : {P : Type 0} (b : Bool) → Decides b P → (P → ⊥) → b ≡ false
decides_not true d n = absurd (n (d.yes refl))
decides_not false d n = refl

-- ---- a date

rises_decides : (conv : ℕ → ℕ) (lo hi : ℕ) (ps : List Point) → Decides (rises conv lo hi ps) (Rises conv lo hi ps)
unfolding rises
rises_decides conv lo hi [] = order_decides lo hi
rises_decides conv lo hi (p ∷ ps) =
    both (leb lo (conv p.time)) (rises conv (conv p.time) hi ps) (order_decides lo (conv p.time)) (rises_decides conv (conv p.time) hi ps)

points_decide : (conv : ℕ → ℕ) (lo hi : ℕ) (o : Option Rule) → Decides (in_order conv lo hi o) (InOrder conv lo hi o)
points_decide conv lo hi None = record { yes = λ e. tt; no = λ h. refl }
points_decide conv lo hi (Some r) = rises_decides conv lo hi r.points

module _ (z : Zone) (g : ℕ → Option Rule) where
  abbrev v : Venue Held
  v = venue_by z g

  pub date_decides : (d : ℕ) → Decides (plain_date z g d) (PlainDate v d)
  unfolding plain_date
  date_decides d =
      let a = midnight v d in
      let b = midnight v (suc d) in
      let one = both (leb a b) (in_order (v.conv d) a b (g d)) (order_decides a b) (points_decide (v.conv d) a b (g d)) in
      let all = both (leb a b && in_order (v.conv d) a b (g d)) (reads_throughout z d a b) one (record { yes = reads_all z d a b; no = all_read z d a b }) in
      record {
        yes = λ e. let h = all.yes e in record { rising = h.0.0; points = h.0.1; reading = h.1 };
        no = λ p. all.no ((p.rising, p.points), p.reading);
      }

  -- ---- a run of dates

  -- of the n dates from d on the last one's midnight is not before the end, and all to it are plain
  pub record Reached (end n d : ℕ) : Type 0 where
    pub last : ℕ
    pub from : d ≤ last
    pub few : last < d + n
    pub run : (i : ℕ) → d ≤ i → i ≤ last → PlainDate v i
    pub closes : end ≤ midnight v last

  reaches_yes : (end n d : ℕ) → reaches z g end n d ≡ true → Reached end n d
  unfolding reaches
  reaches_yes end zero d e = no_test e
  reaches_yes end (suc n) d e =
      let h = and_true (plain_date z g d) (leb end (midnight v d) || reaches z g end n (suc d)) e in
      go (leb end (midnight v d)) refl ((date_decides d).yes h.0) (reaches_yes end n (suc d)) h.1
    where
      one : PlainDate v d → (i : ℕ) → d ≤ i → i ≤ d → PlainDate v i
      one p i a b = let q : d ≡ i = omega arith in subst (PlainDate v) q p

      on : PlainDate v d → (r : Reached end n (suc d)) (i : ℕ) → Dec (d < i) → d ≤ i → i ≤ r.last → PlainDate v i
      on p r i (yes l) a b = r.run i l b
      on p r i (no l) a b = one p i a (omega arith)

      go : (q : Bool) → leb end (midnight v d) ≡ q → PlainDate v d → (reaches z g end n (suc d) ≡ true → Reached end n (suc d))
          → (q || reaches z g end n (suc d)) ≡ true → Reached end (suc n) d
      go true q p next f = record { last = d; from = omega arith; few = omega arith; run = one p; closes = leb-true end (midnight v d) q }
      go false q p next f =
          let r = next f in
          record { last = r.last; from = omega (arith, r.from); few = omega (arith, r.few); run = λ i a b. on p r i (dec_lt d i) a b; closes = r.closes }

  reaches_no : (end n d : ℕ) → Reached end n d → reaches z g end n d ≡ true
  unfolding reaches
  reaches_no end zero d r = absurd (omega (arith, r.from, r.few))
  reaches_no end (suc n) d r =
      rw ((date_decides d).no (r.run d (omega arith) r.from)) (go (dec_le end (midnight v d)) (dec_lt d r.last) (reaches_no end n (suc d)))
    where
      go : Dec (end ≤ midnight v d) → Dec (d < r.last) → (Reached end n (suc d) → reaches z g end n (suc d) ≡ true)
          → (leb end (midnight v d) || reaches z g end n (suc d)) ≡ true
      go (yes l) q next = rw (le-leb end (midnight v d) l)
      go (no l) (yes q) next =
          rw (lt-leb end (midnight v d) (omega arith))
          (next (record { last = r.last; from = q; few = omega (arith, r.few); run = λ i a b. r.run i (omega arith) b; closes = r.closes }))
      go (no l) (no q) next =
          let e : r.last ≡ d = omega (arith, r.from) in
          absurd (l (subst (λ (i : ℕ). end ≤ midnight v i) e r.closes))

  pub reach_decides : (end n d : ℕ) → Decides (reaches z g end n d) (Reached end n d)
  reach_decides end n d = record { yes = reaches_yes end n d; no = reaches_no end n d }

  -- ---- a window

  -- an instant of a run is of one of its dates
  record Within (first count t : ℕ) : Type 0 where
    date : ℕ
    from : first ≤ date
    to : date < first + count
    opens : midnight v date ≤ t
    closes : t < midnight v (suc date)

  within : (first count t : ℕ) → midnight v first ≤ t → t < midnight v (first + count) → Within first count t
  within first zero t a b = let e : first + 0 ≡ first = omega arith in absurd (let c = subst (λ (i : ℕ). t < midnight v i) e b in omega (arith, a, c))
  within first (suc n) t a b = go (dec_lt t (midnight v (first + n))) (within first n t a)
    where
      go : Dec (t < midnight v (first + n)) → (t < midnight v (first + n) → Within first n t) → Within first (suc n) t
      go (yes l) next =
          let w = next l in
          record { date = w.date; from = w.from; to = omega (arith, w.to); opens = w.opens; closes = w.closes }
      go (no l) next =
          let e : first + suc n ≡ suc (first + n) = omega arith in
          let c = subst (λ (i : ℕ). t < midnight v i) e b in
          record { date = first + n; from = omega arith; to = omega arith; opens = omega (arith, l); closes = c }

  module _ (w : Part) where
    from_yes : (d : ℕ) → plain_from z g w d ≡ true → PlainWindow v w
    from_yes d e =
        let h = and_true ((ltb 0 d && leb (midnight v d) w.start) && plain_date z g (d - 1)) (reaches z g w.end most_dates d) e in
        let i = and_true (ltb 0 d && leb (midnight v d) w.start) (plain_date z g (d - 1)) h.0 in
        let j = and_true (ltb 0 d) (leb (midnight v d) w.start) i.0 in
        let r = reaches_yes w.end most_dates d h.1 in
        let k : r.last ≡ d + (r.last - d) = omega (arith, r.from) in
        record {
          first = d;
          count = r.last - d;
          few = omega (arith, r.few);
          run = λ i a b. r.run i a (omega arith);
          opens = leb-true (midnight v d) w.start j.1;
          closes = subst (λ (i : ℕ). w.end ≤ midnight v i) k r.closes;
          later = ltb-true 0 d j.0;
          before = (date_decides (d - 1)).yes i.1;
          after = subst (PlainDate v) k (r.run r.last r.from (omega arith));
        }

    from_no : (p : PlainWindow v w) (n : Within p.first p.count w.start) → plain_from z g w n.date ≡ true
    from_no p n =
        let d = n.date in
        let l : 0 < d = omega (arith, p.later, n.from) in
        rw (lt-ltb 0 d l, le-leb (midnight v d) w.start n.opens, (date_decides (d - 1)).no (yesterday (dec_lt p.first d)))
        (reaches_no w.end most_dates d
        (record {
          last = p.first + p.count;
          from = omega (arith, n.to);
          few = omega (arith, n.from, p.few);
          run = λ i a b. on i a b (dec_lt i (p.first + p.count));
          closes = p.closes;
        }))
      where
        yesterday : Dec (p.first < n.date) → PlainDate v (n.date - 1)
        yesterday (yes l) = p.run (n.date - 1) (omega arith) (omega (arith, n.to))
        yesterday (no l) = let e : p.first ≡ n.date = omega (arith, n.from) in subst (λ (i : ℕ). PlainDate v (i - 1)) e p.before

        on : (i : ℕ) → n.date ≤ i → i ≤ p.first + p.count → Dec (i < p.first + p.count) → PlainDate v i
        on i a b (yes l) = p.run i (omega (arith, n.from)) l
        on i a b (no l) = let e : p.first + p.count ≡ i = omega arith in subst (PlainDate v) e p.after

    pub window_decides : w.start < w.end → Decides (plain_window z g w) (PlainWindow v w)
    unfolding plain_window
    window_decides order = record { yes = λ e. from_yes (date_at z w.start) e; no = λ p. go p (within p.first p.count w.start p.opens (omega (arith, p.closes))) }
      where
        go : (p : PlainWindow v w) → Within p.first p.count w.start → plain_from z g w (date_at z w.start) ≡ true
        go p n =
            let e = (p.run n.date n.from n.to).reading w.start n.opens n.closes in
            subst (λ (d : ℕ). plain_from z g w d ≡ true) (sym e) (from_no p n)

-- ---- a window of a book

pub book_decides : (s : List ℕ) (start end : ℤ) → instant_of start < instant_of end → Decides (plain s start end) (Plain s start end)
book_decides s start end h = go (coverage_of (records s))
  where
    go : (o : Option Coverage) → Decides (plain_for (records s) (window start end) o) (PlainFor (records s) (window start end) o)
    go None = record { yes = λ e. no_test e; no = λ p. absurd p }
    go (Some c) = let v = values_of (records s) c in window_decides v.zone v.governing (window start end) h

-- over what opening a book stores
pub stored_decides : (s : List ℕ) (h : Header) (k : Known s h) (w : Part) (r : Bool)
    → Decides r (PlainWindow (venue_by (zone_of h.offset0 (ats_of (records s)) (offsets_of (records s))) (governing_rule (map (rule_at s) (rule_places s)))) w)
    → Decides r (PlainFor (records s) w (coverage_of (records s)))
stored_decides s h k w r d =
    subst (λ (o : Option Coverage). Decides r (PlainFor (records s) w o)) (sym k.is)
    (subst (λ (v : Values). Decides r (PlainWindow (venue_of v) w)) (stored_values s h k) d)

-- as the code answers it, over an opened book
pub opened_decides : {s : List ℕ} {h : Header} {o : OpenVenue} → Holds s h o → Known s h → (w : Part) (r : Bool)
    → Decides r (PlainWindow (venue_by (zone_in o.clock) (governing_rule (rules_in o.rules))) w)
    → Decides r (PlainFor (records s) w (coverage_of (records s)))
opened_decides {s} i k w r d =
    subst (λ (o : Option Coverage). Decides r (PlainFor (records s) w o)) (sym k.is)
    (subst (λ (v : Values). Decides r (PlainWindow (venue_of v) w)) (opened_values i k) d)
