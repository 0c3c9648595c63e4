-- A reading has no, one or two instants, and `resolve` says which. Assumes nothing.
use Rattle.std.proofs.Common.{◌≡◌, ℕ, ◌+◌, ◌-◌, ◌*◌, ◌<◌, ◌≤◌, Bool, true, false, eqb, ◌⊎◌, List, sym, refl, ap, ◌∙◌, subst, inl, inr, ⊎_elim, arith, le-ltb, lt-ltb, eq-eqb, ne_eqb, eqb-true, le-leb}
use native.Mathlib.Decide.{dec_lt, dec_le}
use borrow.Author.Tests.{eqb-false, lt-leb}
use Rattle.zone.specs.Units.{most_offset, most_offset_ns}
use Rattle.zone.specs.Zone.{Zone, zone_of, offset_at, Reads, instant_by, instant_by_before, instant_by_after, reads, resolved, resolve, Skips, Means}
use Rattle.zone.specs.Answers.{Valid, taken}
use Rattle.zone.specs.Private.{around}
use Rattle.zone.specs.declared.Doubt.{Doubt}
use Rattle.zone.specs.declared.Resolution.{Resolution}
use Rattle.zone.specs.declared.Resolution.TheVariants.{Clear, Fold, Gap}
use Rattle.zone.proofs.Offsets.{offset_most, Turn, turn}

-- one of the instants that an answer gives
abbrev pub Among : ℕ → Resolution → Type 0
Among t (Clear s) = t ≡ s.0
Among t (Fold d) = (t ≡ d.before.0) ⊎ (t ≡ d.after.0)
Among t (Gap d) = ⊥

clear_by : (s t : ℕ) → s ≡ t → ◌≡◌ {A = Resolution} (Clear (record { 0 = s })) (Clear (record { 0 = t }))
clear_by s t e = cc

doubt_by : (a a' b b' : ℕ) → a ≡ a' → b ≡ b'
    → ◌≡◌ {A = Doubt} (record { before = record { 0 = a }; after = record { 0 = b } }) (record { before = record { 0 = a' }; after = record { 0 = b' } })
doubt_by a a' b b' p q = cc

-- a shift keeps order
pub shift_order : (o x y : ℕ) → x ≤ y → instant_by o x ≤ instant_by o y
shift_order o x y h = omega arith

-- two instants beside a change, by whether they read the reading they were made from
decided : (r s e : Bool) (at a b : ℕ) → eqb a b ≡ e → (a < at → r ≡ true) → (at ≤ a → r ≡ true → a ≡ b) → (at ≤ b → s ≡ true)
    → (b < at → s ≡ true → a ≡ b)
    → resolved r s e a b ≡ around at a b
decided r s e at a b k f f' g g' = go (dec_lt a at) (dec_le at b)
  where
    both : (r s e : Bool) → r ≡ true → s ≡ true → e ≡ false → a < at → at ≤ b → resolved r s e a b ≡ around at a b
    both r s e i j n l m = simp (i, j, n, lt-ltb a at l, le-leb at b m)

    first_only : (r s e : Bool) → eqb a b ≡ e → r ≡ true → (s ≡ true → a ≡ b) → a < at → b < at → resolved r s e a b ≡ around at a b
    first_only r true e k i h l m = simp (i, sym k, eq-eqb a b (h refl), lt-ltb a at l, lt-leb at b m)
    first_only r false e k i h l m = simp (i, lt-ltb a at l, lt-leb at b m)

    second_only : (r s e : Bool) → eqb a b ≡ e → s ≡ true → (r ≡ true → a ≡ b) → at ≤ a → at ≤ b → resolved r s e a b ≡ around at a b
    second_only true s e k j h l m =
        simp (j, sym k, eq-eqb a b (h refl), le-ltb a at l, le-leb at b m) (ap (λ (t : ℕ). Clear (record { 0 = t })) (h refl))
    second_only false s e k j h l m = simp (j, le-ltb a at l, le-leb at b m)

    neither : (r s e : Bool) → (r ≡ true → a ≡ b) → (s ≡ true → a ≡ b) → at ≤ a → b < at → resolved r s e a b ≡ around at a b
    neither true s e h i l m = absurd (let z = h refl in omega arith)
    neither false true e h i l m = absurd (let z = i refl in omega arith)
    neither false false e h i l m = simp (le-ltb a at l, lt-leb at b m)

    go : Dec (a < at) → Dec (at ≤ b) → resolved r s e a b ≡ around at a b
    go (yes l) (yes m) = both r s e (f l) (g m) (sym k ∙ ne_eqb a b (λ h. omega arith)) l m
    go (yes l) (no m) = first_only r s e k (f l) (g' (omega arith)) l (omega arith)
    go (no l) (yes m) = second_only r s e k (g m) (f' (omega arith)) (omega arith) m
    go (no l) (no m) = neither r s e (f' (omega arith)) (g' (omega arith)) (omega arith) (omega arith)

module _ (first : ℕ) (ats os : List ℕ) (ok : Valid first ats os) (x : ℕ) (low : most_offset_ns ≤ x) where
  abbrev z : Zone
  z = zone_of first ats os

  -- where the instants of x can lie
  abbrev u : ℕ
  u = x - most_offset_ns

  abbrev v : ℕ
  v = x + most_offset_ns

  abbrev a : ℕ
  a = instant_by_before z x

  abbrev b : ℕ
  b = instant_by_after z x

  o_most : offset_at z u ≤ 2 * most_offset
  o_most = offset_most first ats os u ok

  p_most : offset_at z v ≤ 2 * most_offset
  p_most = offset_most first ats os v ok

  -- a reading by an offset lies within 57,600 s of the reading
  pub before_near : (u ≤ a) × (a ≤ v)
  before_near = omega (arith, o_most)

  pub after_near : (u ≤ b) × (b ≤ v)
  after_near = omega (arith, p_most)

  -- and so does every instant of it
  pub reads_near : (t : ℕ) → Reads z t x → (u ≤ t) × (t ≤ v)
  reads_near t r = omega (arith, offset_most first ats os t ok)

  change : (at : ℕ) × Turn z u v at
  change = turn first ats os u v ok.spaced (omega arith) (omega arith)

  -- x by the offset before the change reads x where it stands before the change, and only such an instant does
  reads_before : (t : ℕ) → u ≤ t → t ≤ v → t < change.0 → (t ≡ a → Reads z t x) × (Reads z t x → t ≡ a)
  reads_before t p q l = let e = change.1.until t p q l in (λ i. omega (arith, o_most), λ r. omega (arith, o_most))

  reads_after : (t : ℕ) → u ≤ t → t ≤ v → change.0 ≤ t → (t ≡ b → Reads z t x) × (Reads z t x → t ≡ b)
  reads_after t p q l = let e = change.1.since t p q l in (λ i. omega (arith, p_most), λ r. omega (arith, p_most))

  -- never more than the two
  pub never_more : (t : ℕ) → Reads z t x → (t ≡ a) ⊎ (t ≡ b)
  never_more t r = go (dec_lt t change.0) (reads_near t r)
    where
      go : Dec (t < change.0) → (u ≤ t) × (t ≤ v) → (t ≡ a) ⊎ (t ≡ b)
      go (yes l) n = inl ((reads_before t n.0 n.1 l).1 r)
      go (no l) n = inr ((reads_after t n.0 n.1 (omega arith)).1 r)

  told : (t : ℕ) → Reads z t x → reads z t x ≡ true
  told t r = eq-eqb _ _ r

  read : (t : ℕ) → reads z t x ≡ true → Reads z t x
  read t e = eqb-true _ _ e

  unread : (t : ℕ) → reads z t x ≡ false → Reads z t x → ⊥
  unread t e r = eqb-false _ _ e r

  none_at : {s t : ℕ} → reads z s x ≡ false → Reads z t x → t ≡ s → ⊥
  none_at {s} e r h = unread s e (subst (λ (y : ℕ). Reads z y x) h r)

  -- where they are two, one stands before the change and one from it on
  fold_order : (a ≡ b → ⊥) → Reads z a x → Reads z b x → a < b
  fold_order n p q = go (dec_lt a change.0) (dec_lt b change.0)
    where
      go : Dec (a < change.0) → Dec (b < change.0) → a < b
      go (no l) d = absurd (n ((reads_after a before_near.0 before_near.1 (omega arith)).1 p))
      go (yes l) (yes m) = absurd (n (sym ((reads_before b after_near.0 after_near.1 m).1 q)))
      go (yes l) (no m) = omega arith

  -- where they are none, the change skips x
  gap_order : (Reads z a x → ⊥) → (Reads z b x → ⊥) → (change.0 ≤ a) × (b < change.0)
  gap_order p q = (go (dec_le change.0 a), go' (dec_lt b change.0))
    where
      go : Dec (change.0 ≤ a) → change.0 ≤ a
      go (yes l) = l
      go (no l) = absurd (p ((reads_before a before_near.0 before_near.1 (omega arith)).0 refl))

      go' : Dec (b < change.0) → b < change.0
      go' (yes l) = l
      go' (no l) = absurd (q ((reads_after b after_near.0 after_near.1 (omega arith)).0 refl))

  skipped : (Reads z a x → ⊥) → (Reads z b x → ⊥) → Skips z x change.0 a b
  skipped p q =
      let at = change.0 in
      let order = gap_order p q in
      let was = change.1.until (at - 1) (omega (arith, after_near.0)) (omega (arith, before_near.1)) (omega arith) in
      let now = change.1.since at (omega (arith, after_near.0)) (omega (arith, before_near.1)) (omega arith) in
      record {
        by_before = ap (λ (o : ℕ). instant_by o x) (sym was);
        by_after = ap (λ (o : ℕ). instant_by o x) (sym now);
        late = order.0;
        early = order.1;
      }

  pub resolve_means : Means z x (resolve z x)
  unfolding resolve
  resolve_means = go (reads z a x) (reads z b x) (eqb a b) refl refl refl
    where
      go : (r s e : Bool) → reads z a x ≡ r → reads z b x ≡ s → eqb a b ≡ e → Means z x (resolved r s e a b)
      go true true true i j k = let one = eqb-true a b k in (read a i, λ t r. ⊎_elim (λ h. h) (λ h. h ∙ sym one) (never_more t r))
      go true true false i j k = (fold_order (eqb-false a b k) (read a i) (read b j), read a i, read b j, never_more)
      go true false e i j k = (read a i, λ t r. ⊎_elim (λ h. h) (λ h. absurd (none_at j r h)) (never_more t r))
      go false true e i j k = (read b j, λ t r. ⊎_elim (λ h. absurd (none_at i r h)) (λ h. h) (never_more t r))
      go false false e i j k = (λ t r. ⊎_elim (none_at i r) (none_at j r) (never_more t r), (change.0, skipped (unread a i) (unread b j)))

  -- ---- around one transition

  -- what conversion does where the offset changes at `at`, if at all
  pub resolve_around : (at : ℕ) → Turn z u v at → resolve z x ≡ around at a b
  unfolding resolve
  resolve_around at c =
      decided (reads z a x) (reads z b x) (eqb a b) at a b refl
      (λ l. let e = c.until a before_near.0 before_near.1 l in told a (omega (arith, o_most)))
      (λ l r. let e = c.since a before_near.0 before_near.1 l in let i = read a r in omega (arith, p_most))
      (λ l. let e = c.since b after_near.0 after_near.1 l in told b (omega (arith, p_most)))
      (λ l r. let e = c.until b after_near.0 after_near.1 l in let i = read b r in omega (arith, o_most))

  -- ---- laws for resolving

  -- a converted reading lies within 57,600 s of the reading
  pub taken_near : (u ≤ taken (resolve z x)) × (taken (resolve z x) ≤ v)
  unfolding resolve
  taken_near = go (reads z a x) (reads z b x) (eqb a b)
    where
      go : (r s e : Bool) → (u ≤ taken (resolved r s e a b)) × (taken (resolved r s e a b) ≤ v)
      go true true true = before_near
      go true true false = before_near
      go true false e = before_near
      go false true e = after_near
      go false false e = omega (arith, before_near, after_near)

  -- an instant is among the instants of its own reading
  pub among : (t : ℕ) → Reads z t x → Among t (resolve z x)
  among t r = go (resolve z x) resolve_means
    where
      go : (s : Resolution) → Means z x s → Among t s
      go (Clear y) m = m.1 t r
      go (Fold d) m = m.3 t r
      go (Gap d) m = m.0 t r

  -- where the offset is one, conversion is a shift
  pub resolve_steady : (o : ℕ) → ((t : ℕ) → u ≤ t → t ≤ v → offset_at z t ≡ o) → resolve z x ≡ Clear (record { 0 = instant_by o x })
  resolve_steady o f =
      let i = f u (omega arith) (omega arith) in
      let j = f v (omega arith) (omega arith) in
      let one : a ≡ b = ap (λ (p : ℕ). instant_by p x) (i ∙ sym j) in
      let c : Turn z u v u = record { until = λ t p q l. f t p q ∙ sym i; since = λ t p q l. f t p q ∙ sym j } in
      let from : u ≤ b = after_near.0 in
      resolve_around u c
      ∙ simp (le-ltb a u before_near.0, le-leb u b from) (ap (λ (p : ℕ). Clear (record { 0 = instant_by p x })) j)

  -- no second answer has the meaning
  at_change : (at p q : ℕ) → Skips z x at p q → at ≡ change.0
  at_change at p q s =
      let k = change.0 in
      let most = offset_most first ats os at ok in
      let most' = offset_most first ats os (at - 1) ok in
      let n : (u < at) × (at ≤ v) = omega (arith, s.late, s.early, s.by_before, s.by_after) in
      go (dec_lt at k) (dec_lt k at) n
    where
      apart : offset_at z (at - 1) ≡ offset_at z at → ⊥
      apart e = let i : p ≡ q = s.by_before ∙ ap (λ (o : ℕ). instant_by o x) e ∙ sym s.by_after in omega (arith, s.late, s.early)

      go : Dec (at < change.0) → Dec (change.0 < at) → (u < at) × (at ≤ v) → at ≡ change.0
      go (yes l) d n =
          let before = change.1.until (at - 1) (omega arith) (omega arith) (omega arith) in
          absurd (apart (before ∙ sym (change.1.until at (omega arith) n.1 l)))
      go (no l) (yes m) n =
          let before = change.1.since (at - 1) (omega arith) (omega arith) (omega arith) in
          absurd (apart (before ∙ sym (change.1.since at (omega arith) n.1 (omega arith))))
      go (no l) (no m) n = omega arith

  pub means_once : (r s : Resolution) → Means z x r → Means z x s → r ≡ s
  means_once (Clear t) (Clear t') m n = clear_by t.0 t'.0 (n.1 t.0 m.0)
  means_once (Clear t) (Fold d) m n = absurd (omega (arith, m.1 d.before.0 n.1, m.1 d.after.0 n.2, n.0))
  means_once (Clear t) (Gap d) m n = absurd (n.0 t.0 m.0)
  means_once (Fold d) (Clear t) m n = absurd (omega (arith, n.1 d.before.0 m.1, n.1 d.after.0 m.2, m.0))
  means_once (Fold d) (Fold e) m n =
      let h = m.3 e.before.0 n.1 in
      let i = m.3 e.after.0 n.2 in
      let order = m.0 in
      let order' = n.0 in
      let p : d.before.0 ≡ e.before.0 = ⊎_elim (λ q. sym q) (λ q. ⊎_elim (λ k. omega arith) (λ k. omega arith) i) h in
      let q : d.after.0 ≡ e.after.0 = ⊎_elim (λ k. omega arith) (λ k. sym k) i in
      ap Fold (doubt_by d.before.0 e.before.0 d.after.0 e.after.0 p q)
  means_once (Fold d) (Gap e) m n = absurd (n.0 d.before.0 m.1)
  means_once (Gap d) (Clear t) m n = absurd (m.0 t.0 n.0)
  means_once (Gap d) (Fold e) m n = absurd (m.0 e.before.0 n.1)
  means_once (Gap d) (Gap e) m n =
      let s = m.1.1 in
      let s' = n.1.1 in
      let same : m.1.0 ≡ n.1.0 = at_change _ _ _ s ∙ sym (at_change _ _ _ s') in
      ap Gap
      (doubt_by d.before.0 e.before.0 d.after.0 e.after.0
      (s.by_before ∙ ap (λ (k : ℕ). instant_by (offset_at z (k - 1)) x) same ∙ sym s'.by_before)
      (s.by_after ∙ ap (λ (k : ℕ). instant_by (offset_at z k) x) same ∙ sym s'.by_after))
