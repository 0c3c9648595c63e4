-- A list of records that each pass after those before them is what a book may hold. Assumes nothing.
use mathlib.Core.Path.{◌≡◌, refl}
use mathlib.Core.Bool.{Bool, true, false, cond}
use mathlib.Core.List.{List, [], ◌∷◌}
use Rattle.std.specs.Prelude.{Option, None, Some}
use Prim.Native.Nat.{ℕ, suc, ◌+◌, ◌≤◌}
use native.Mathlib.Nat.{zero-add}
use native.Mathlib.Decide.{ℕ_discrete}
use native.Mathlib.Omega.{arith}
use borrow.Author.Tests.{ltb-false, le-ltb, leb-true, leb-false, le-leb, lt-leb, eq-eqb, ne_eqb, eqb-true, not-false}
use lib.Dec.{eqb}
use lib.IntN.{ℤ, pos, negsuc, ◌+ℤ◌}
use lib.Signed.{lt_z, le_z}
use Rattle.records.specs.Limits.{Limits}
use Rattle.records.specs.Records.{Record, coverage, transition, rule, event, kind_of}
use Rattle.zone.specs.Units.{spacing}
use Rattle.records.specs.Book.{headless, many, most, last_instant, closer, too_many, too_close}
use Rattle.records.specs.Valid.{Fits, AllSound, Headed, instants_of, Spaced, Valid}
use Rattle.records.proofs.Cascade.{Passed}
use Rattle.records.specs.Layout.{coverage_kind}

-- each record passes after those before it, the latest first
abbrev pub Follow : Limits → List Record → List Record → Type 0
Follow l before [] = Unit {0}
Follow l before (r ∷ rs) = Passed l before r × Fits r × Follow l (r ∷ before) rs

-- ---- how many of a kind

-- a record counts the same before the others and behind them
pub many_moved : (k : ℕ) (r : Record) (before rs : List Record) → many k (r ∷ before) + many k rs ≡ many k before + many k (r ∷ rs)
many_moved k r before rs = go (eqb (kind_of r) k) (many k before) (many k rs)
  where
    go : (b : Bool) (m n : ℕ) → cond b (suc m) m + n ≡ m + cond b (suc n) n
    go true m n = omega arith
    go false m n = refl

-- one more of its own kind, and as many of each other
pub many_same : (k : ℕ) (r : Record) (rs : List Record) → kind_of r ≡ k → many k (r ∷ rs) ≡ suc (many k rs)
many_same k r rs e = simp (eq-eqb (kind_of r) k e)

pub many_other : (k : ℕ) (r : Record) (rs : List Record) → (kind_of r ≡ k → ⊥) → many k (r ∷ rs) ≡ many k rs
many_other k r rs e = simp (ne_eqb (kind_of r) k e)

pub many_room : (l : Limits) (k : ℕ) (before : List Record) (r : Record) → too_many l before r ≡ false → many k before ≤ most l k
    → many k (r ∷ before) ≤ most l k
many_room l k before r e h = go (ℕ_discrete (kind_of r) k)
  where
    go : Dec (kind_of r ≡ k) → many k (r ∷ before) ≤ most l k
    go (yes i) = rw (many_same k r before i) (rw i at (leb-false (most l (kind_of r)) (many (kind_of r) before) e))
    go (no n) = rw (many_other k r before n) h

few_after : (l : Limits) (k : ℕ) (before rs : List Record) → Follow l before rs → many k before ≤ most l k → many k before + many k rs ≤ most l k
few_after l k before [] f h = omega arith
few_after l k before (r ∷ rs) f h = omega (arith, many_moved k r before rs, few_after l k (r ∷ before) rs f.2 (many_room l k before r f.0.few h))

few_one : (l : Limits) (before : List Record) (r : Record) (rs : List Record) → many (kind_of r) before + many (kind_of r) (r ∷ rs) ≤ most l (kind_of r)
    → too_many l before r ≡ false
few_one l before r rs h =
    let e = many_same (kind_of r) r rs refl in
    lt-leb (most l (kind_of r)) (many (kind_of r) before) (omega arith)

-- ---- how far apart

-- what Spaced says of the instants behind a last one, if there is one
abbrev After : Option ℤ → List ℤ → Type 0
After None zs = Spaced zs
After (Some a) zs = Spaced (a ∷ zs)

not_before : (a b : ℤ) → lt_z a b ≡ false → le_z b a ≡ true
not_before (pos a) (pos b) e = le-leb b a (ltb-false a b e)
not_before (pos a) (negsuc b) e = refl
not_before (negsuc a) (pos b) e = cc
not_before (negsuc a) (negsuc b) e = le-leb a b (ltb-false b a e)

not_behind : (a b : ℤ) → le_z b a ≡ true → lt_z a b ≡ false
not_behind (pos a) (pos b) e = le-ltb a b (leb-true b a e)
not_behind (pos a) (negsuc b) e = refl
not_behind (negsuc a) (pos b) e = cc
not_behind (negsuc a) (negsuc b) e = le-ltb b a (leb-true a b e)

apart_one : (o : Option ℤ) (z : ℤ) (zs : List ℤ) → closer o z ≡ false → Spaced (z ∷ zs) → After o (z ∷ zs)
apart_one None z zs e p = p
apart_one (Some a) z zs e p = (not_before z (a +ℤ pos spacing) e, p)

one_apart : (o : Option ℤ) (z : ℤ) (zs : List ℤ) → After o (z ∷ zs) → (closer o z ≡ false) × Spaced (z ∷ zs)
one_apart None z zs p = (refl, p)
one_apart (Some a) z zs p = (not_behind z (a +ℤ pos spacing) p.0, p.1)

alone : (o : Option ℤ) → After o []
alone None = tt
alone (Some a) = tt

-- one record more, forth and back
apart_forth : (before : List Record) (r : Record) (rs : List Record) → too_close before r ≡ false → After (last_instant (r ∷ before)) (instants_of rs)
    → After (last_instant before) (instants_of (r ∷ rs))
apart_forth before (coverage c) rs e p = p
apart_forth before (transition t) rs e p = apart_one (last_instant before) t.at (instants_of rs) e p
apart_forth before (rule r) rs e p = p
apart_forth before (event v) rs e p = p

apart_back : (before : List Record) (r : Record) (rs : List Record) → After (last_instant before) (instants_of (r ∷ rs))
    → (too_close before r ≡ false) × After (last_instant (r ∷ before)) (instants_of rs)
apart_back before (coverage c) rs p = (refl, p)
apart_back before (transition t) rs p = one_apart (last_instant before) t.at (instants_of rs) p
apart_back before (rule r) rs p = (refl, p)
apart_back before (event v) rs p = (refl, p)

apart_after : (l : Limits) (before rs : List Record) → Follow l before rs → After (last_instant before) (instants_of rs)
apart_after l before [] f = alone (last_instant before)
apart_after l before (r ∷ rs) f = apart_forth before r rs f.0.apart (apart_after l (r ∷ before) rs f.2)

-- ---- what follows is what a book may hold

pub follow_headed : (l : Limits) (rs : List Record) → Follow l [] rs → Headed rs
follow_headed l [] f = tt
follow_headed l (r ∷ rs) f = eqb-true (kind_of r) coverage_kind (not-false _ f.0.headed)

pub follow_few : (l : Limits) (rs : List Record) → Follow l [] rs → (k : ℕ) → many k rs ≤ most l k
follow_few l rs f k = omega (arith, few_after l k [] rs f (omega arith))

pub follow_sound : (l : Limits) (before rs : List Record) → Follow l before rs → AllSound l rs
follow_sound l before [] f = tt
follow_sound l before (r ∷ rs) f =
    let p = f.0 in (
      record { fits = f.1; within = p.fields; prompt = p.prompt; rising = p.rising; forward = p.forward; covering = p.covering },
      follow_sound l (r ∷ before) rs f.2,
    )

pub follow_apart : (l : Limits) (rs : List Record) → Follow l [] rs → Spaced (instants_of rs)
follow_apart l rs f = apart_after l [] rs f

-- ---- and back

-- a list behind others needs no head of kind 1
abbrev HeadedAfter : List Record → List Record → Type 0
HeadedAfter [] rs = Headed rs
HeadedAfter (b ∷ before) rs = Unit {0}

headed_one : (before : List Record) (r : Record) (rs : List Record) → HeadedAfter before (r ∷ rs) → headless before r ≡ false
headed_one [] r rs h = simp (eq-eqb (kind_of r) coverage_kind h)
headed_one (b ∷ before) r rs h = refl

follow_after : (l : Limits) (before rs : List Record) → HeadedAfter before rs → ((k : ℕ) → many k before + many k rs ≤ most l k) → AllSound l rs
    → After (last_instant before) (instants_of rs) → Follow l before rs
follow_after l before [] h m s a = tt
follow_after l before (r ∷ rs) h m s a =
    let q = s.0 in
    let b = apart_back before r rs a in
    let p : Passed l before r =
    record {
      headed = headed_one before r rs h;
      few = few_one l before r rs (m (kind_of r));
      fields = q.within;
      prompt = q.prompt;
      rising = q.rising;
      forward = q.forward;
      covering = q.covering;
      apart = b.0;
    } in
    (p, q.fits, follow_after l (r ∷ before) rs tt (λ k. rw (many_moved k r before rs) (m k)) s.1 b.1)

pub valid_follow : (l : Limits) (rs : List Record) → Valid l rs → Follow l [] rs
valid_follow l rs v = follow_after l [] rs v.headed (λ k. rw (zero-add (many k rs)) (v.few k)) v.sound v.apart
