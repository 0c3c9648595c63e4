-- Where the first and the last instant and both sides of each transition between read a date, so does every instant between. Assumes nothing.
use Rattle.std.proofs.Common.{◌≡◌, ℕ, ◌+◌, ◌-◌, ◌<◌, ◌≤◌, Bool, true, cond, ◌&&◌, ltb, leb, List, [], ◌∷◌, sym, refl, ap, ◌∙◌, le_refl, arith, le-ltb, lt-ltb, eq-eqb, eqb-true, le-leb}
use native.Mathlib.Decide.{dec_lt, dec_le}
use borrow.Author.Tests.{lt-leb}
use Rattle.wire.proofs.Signs.{and_true, and_no}
use Rattle.zone.specs.Units.{most_offset_ns, offset_ns, nearest_instant, reading_day}
use Rattle.zone.specs.Zone.{Change, Zone, last_offset, offset_at, date_at}
use Rattle.zone.specs.Throughout.{reads_on, reads_around, reads_changes, reads_throughout}

-- ---- the offset is the same where no transition stands between

-- none of them stands after u and not after v
abbrev Unparted : ℕ → ℕ → List Change → Type 0
Unparted u v [] = Unit {0}
Unparted u v (c ∷ cs) = (u < c.at → v < c.at) × Unparted u v cs

unparted_inside : (u v x y : ℕ) (cs : List Change) → u ≤ x → y ≤ v → Unparted u v cs → Unparted x y cs
unparted_inside u v x y [] h i p = tt
unparted_inside u v x y (c ∷ cs) h i p = (λ l. let m = p.0 (omega arith) in omega arith, unparted_inside u v x y cs h i p.1)

nearest_order : (u v : ℕ) → u ≤ v → nearest_instant u ≤ nearest_instant v
nearest_order u v h = omega arith

unparted_nearest : (u v : ℕ) (cs : List Change) → u ≤ v → Unparted u v cs → Unparted (nearest_instant u) (nearest_instant v) cs
unparted_nearest u v [] h p = tt
unparted_nearest u v (c ∷ cs) h p = (λ l. go (dec_lt u c.at) l, unparted_nearest u v cs h p.1)
  where
    go : Dec (u < c.at) → nearest_instant u < c.at → nearest_instant v < c.at
    go (yes m) l = let n = p.0 m in omega (arith, n, l)
    go (no m) l = omega (arith, m, l, h)

same_test : (at u v : ℕ) → u ≤ v → (u < at → v < at) → leb at u ≡ leb at v
same_test at u v h p = go (dec_le at u)
  where
    go : Dec (at ≤ u) → leb at u ≡ leb at v
    go (yes l) = le-leb at u l ∙ sym (le-leb at v (omega arith))
    go (no l) = let m : u < at = omega arith in lt-leb at u m ∙ sym (lt-leb at v (p m))

same_offset : (o : ℕ) (cs : List Change) (u v : ℕ) → u ≤ v → Unparted u v cs → last_offset o cs u ≡ last_offset o cs v
unfolding last_offset
same_offset o [] u v h p = refl
same_offset o (c ∷ cs) u v h p =
    ap (λ (b : Bool). last_offset (cond b c.offset o) cs u) (same_test c.at u v h p.0)
    ∙ same_offset (cond (leb c.at v) c.offset o) cs u v h p.1

-- by one offset, readings rise with instants, and dates with readings
date_between : (u t v o p q d : ℕ) → u ≤ t → t ≤ v → o ≡ p → p ≡ q
    → reading_day (u + offset_ns o - most_offset_ns) ≡ d → reading_day (v + offset_ns q - most_offset_ns) ≡ d → reading_day (t + offset_ns p - most_offset_ns) ≡ d
date_between u t v o p q d h i e f a b = omega arith

-- the last instant before b
last_before : (t b : ℕ) → t < b → (t ≤ b - 1) × (b - 1 < b)
last_before t b l = (omega arith, omega arith)

between : (t a b : ℕ) → a ≤ t → t < b → a < b
between t a b h i = omega arith

later : (at t : ℕ) → (at ≤ t → ⊥) → t < at
later at t k = omega arith

change_before : (t at to b : ℕ) → t < at → at ≤ to → to < b → (t ≤ at - 1) × (at - 1 < b) × (at - 1 ≤ to) × (at - 1 < at)
change_before t at to b k g h = (omega arith, omega arith, omega arith, omega arith)

module _ (z : Zone) (d : ℕ) where
  reads_between : (u t v : ℕ) → u ≤ t → t ≤ v → Unparted u v z.changes → date_at z u ≡ d → date_at z v ≡ d → date_at z t ≡ d
  reads_between u t v h i p a b =
      let cs = z.changes in
      let x = unparted_nearest u t cs h (unparted_inside u v u t cs (omega arith) i p) in
      let y = unparted_nearest t v cs i (unparted_inside u v t v cs h (omega arith) p) in
      let j : nearest_instant u ≤ nearest_instant t = nearest_order u t h in
      let k : nearest_instant t ≤ nearest_instant v = nearest_order t v i in
      date_between (nearest_instant u) (nearest_instant t) (nearest_instant v)
      (offset_at z (nearest_instant u)) (offset_at z (nearest_instant t)) (offset_at z (nearest_instant v)) d j k
      (same_offset z.first cs (nearest_instant u) (nearest_instant t) j x)
      (same_offset z.first cs (nearest_instant t) (nearest_instant v) k y) a b

  module _ (a b : ℕ) where
    -- ---- two instants around t that read the date, with no transition between them

    record Near (t : ℕ) (cs : List Change) : Type 0 where
      from : ℕ
      to : ℕ
      low : a ≤ from
      after : from ≤ t
      before : t ≤ to
      high : to < b
      first_reads : date_at z from ≡ d
      last_reads : date_at z to ≡ d
      unparted : Unparted from to cs

    around_reads : (at : ℕ) → reads_around z d a b at ≡ true → a < at → at < b → (date_at z (at - 1) ≡ d) × (date_at z at ≡ d)
    around_reads at e l m =
        let f : (reads_on z d (at - 1) && reads_on z d at) ≡ true = sym (simp (lt-ltb a at l, lt-ltb at b m)) ∙ e in
        let g = and_true (reads_on z d (at - 1)) (reads_on z d at) f in
        (eqb-true (date_at z (at - 1)) d g.0, eqb-true (date_at z at) d g.1)

    near : (cs : List Change) → reads_changes z d a b cs ≡ true → (t : ℕ) → a ≤ t → t < b → date_at z a ≡ d → date_at z (b - 1) ≡ d → Near t cs
    unfolding reads_changes
    near [] e t h l p q =
        let i = last_before t b l in
        record { from = a; to = b - 1; low = le_refl a; after = h; before = i.0; high = i.1; first_reads = p; last_reads = q; unparted = tt }
    near (c ∷ cs) e t h l p q =
        let both = and_true (reads_around z d a b c.at) (reads_changes z d a b cs) e in
        go both.0 (near cs both.1 t h l p q)
      where
        stays : (n : Near t cs) → (n.from < c.at → n.to < c.at) → Near t (c ∷ cs)
        stays n k =
            record {
              from = n.from;
              to = n.to;
              low = n.low;
              after = n.after;
              before = n.before;
              high = n.high;
              first_reads = n.first_reads;
              last_reads = n.last_reads;
              unparted = (k, n.unparted);
            }

        parts : (n : Near t cs) → n.from < c.at → c.at ≤ n.to → (date_at z (c.at - 1) ≡ d) × (date_at z c.at ≡ d) → Dec (c.at ≤ t)
            → Near t (c ∷ cs)
        parts n f g r (yes k) =
            record {
              from = c.at;
              to = n.to;
              low = omega (arith, n.low);
              after = k;
              before = n.before;
              high = n.high;
              first_reads = r.1;
              last_reads = n.last_reads;
              unparted = (λ i. absurd (omega arith), unparted_inside n.from n.to c.at n.to cs (omega arith) (omega arith) n.unparted);
            }
        parts n f g r (no k) =
            let i = change_before t c.at n.to b (later c.at t k) g n.high in
            record {
              from = n.from;
              to = c.at - 1;
              low = n.low;
              after = n.after;
              before = i.0;
              high = i.1;
              first_reads = n.first_reads;
              last_reads = r.0;
              unparted = (λ j. i.3, unparted_inside n.from n.to n.from (c.at - 1) cs (le_refl n.from) i.2 n.unparted);
            }

        split : reads_around z d a b c.at ≡ true → (n : Near t cs) → Dec (n.from < c.at) → Dec (c.at ≤ n.to) → Near t (c ∷ cs)
        split r n (no f) g = stays n (λ k. absurd (f k))
        split r n (yes f) (no g) = stays n (λ k. omega arith)
        split r n (yes f) (yes g) = parts n f g (around_reads c.at r (omega (arith, n.low)) (omega (arith, n.high))) (dec_le c.at t)

        go : reads_around z d a b c.at ≡ true → Near t cs → Near t (c ∷ cs)
        go r n = split r n (dec_lt n.from c.at) (dec_le c.at n.to)

    module _ (all : (t : ℕ) → a ≤ t → t < b → date_at z t ≡ d) where
      around_yes : (at : ℕ) → reads_around z d a b at ≡ true
      around_yes at = go (dec_lt a at) (dec_lt at b)
        where
          go : Dec (a < at) → Dec (at < b) → reads_around z d a b at ≡ true
          go (no l) m = simp (le-ltb a at (omega arith))
          go (yes l) (no m) = simp (le-ltb at b (omega arith), and_no (ltb a at))
          go (yes l) (yes m) =
              let was = eq-eqb (date_at z (at - 1)) d (all (at - 1) (omega arith) (omega arith)) in
              let is = eq-eqb (date_at z at) d (all at (omega arith) m) in
              simp (lt-ltb a at l, lt-ltb at b m, was, is)

      changes_yes : (cs : List Change) → reads_changes z d a b cs ≡ true
      unfolding reads_changes
      changes_yes [] = refl
      changes_yes (c ∷ cs) = rw (around_yes c.at) (changes_yes cs)

    -- the test is true exactly when every instant reads the date
    pub reads_all : reads_throughout z d a b ≡ true → (t : ℕ) → a ≤ t → t < b → date_at z t ≡ d
    unfolding reads_throughout
    reads_all e t h i =
        let f : ((reads_on z d a && reads_on z d (b - 1)) && reads_changes z d a b z.changes) ≡ true =
        sym (simp (lt-ltb a b (between t a b h i))) ∙ e in
        let g = and_true (reads_on z d a && reads_on z d (b - 1)) (reads_changes z d a b z.changes) f in
        let k = and_true (reads_on z d a) (reads_on z d (b - 1)) g.0 in
        let n = near z.changes g.1 t h i (eqb-true (date_at z a) d k.0) (eqb-true (date_at z (b - 1)) d k.1) in
        reads_between n.from t n.to n.after n.before n.unparted n.first_reads n.last_reads

    pub all_read : ((t : ℕ) → a ≤ t → t < b → date_at z t ≡ d) → reads_throughout z d a b ≡ true
    unfolding reads_throughout
    all_read all = go (dec_lt a b)
      where
        go : Dec (a < b) → reads_throughout z d a b ≡ true
        go (no l) = simp (le-ltb a b (omega arith))
        go (yes l) =
            let first = eq-eqb (date_at z a) d (all a (omega arith) l) in
            let last = eq-eqb (date_at z (b - 1)) d (all (b - 1) (omega arith) (omega arith)) in
            simp (lt-ltb a b l, first, last) (changes_yes all z.changes)
