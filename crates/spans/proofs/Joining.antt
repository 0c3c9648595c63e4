-- Joining keeps the order of the spans, changes neither phase nor evidence anywhere, and leaves no two that touch and show the same.
-- Assumes nothing.
use mathlib.Core.Path.{◌≡◌, refl, sym, ap, ◌∙◌}
use mathlib.Core.Bool.{Bool, true, false, cond}
use mathlib.Core.List.{List, [], ◌∷◌}
use Rattle.std.specs.Prelude.{Option, Some}
use Prim.Native.Nat.{ℕ, ◌<◌}
use native.Mathlib.Decide.{dec_lt}
use native.Mathlib.Omega.{arith}
use borrow.Author.Tests.{eqb-true, eq-eqb}
use lib.Dec.{eqb}
use Rattle.wire.proofs.Signs.{and_true}
use Rattle.spans.specs.Spans.{Mark, phase, unknown, same_mark, Span, look, holds, Within, Body, joins, joined_span, join_from, joined, Differ, Apart}
use Rattle.spans.proofs.Lists.{look_in, look_early, look_late}

same_true : (a b : Mark) → same_mark a b ≡ true → a ≡ b
same_true (phase p e) (phase q f) h =
    let both = and_true (eqb p q) (eqb e f) h in
    let x = eqb-true p q both.0 in
    let y = eqb-true e f both.1 in
    cc
same_true (phase p e) unknown h = cc
same_true unknown (phase q f) h = cc
same_true unknown unknown h = refl

same_self : (a : Mark) → same_mark a a ≡ true
same_self (phase p e) = simp (eq-eqb p p refl, eq-eqb e e refl)
same_self unknown = refl

module _ {A : Type 0} (B : Body A) where
  joins_true : (s r : Span A) → joins B s r ≡ true → (s.to ≡ r.from) × (B.mark s.body ≡ B.mark r.body)
  joins_true s r h =
      let both = and_true (eqb s.to r.from) (same_mark (B.mark s.body) (B.mark r.body)) h in
      (eqb-true s.to r.from both.0, same_true (B.mark s.body) (B.mark r.body) both.1)

  joins_false : (s r : Span A) → joins B s r ≡ false → s.to ≡ r.from → B.mark s.body ≡ B.mark r.body → ⊥
  joins_false s r h p q =
      let a : joins B s r ≡ true = simp (eq-eqb s.to r.from p, q, same_self) in
      let z : ◌≡◌ {A = ℕ} 0 1 = cc in
      omega arith

  from_within : (lo hi : ℕ) (s : Span A) (ss : List (Span A)) → Within lo hi (s ∷ ss) → Within lo hi (join_from B s ss)
  unfolding join_from
  from_within lo hi s [] w = w
  from_within lo hi s (r ∷ rs) w =
      go (joins B s r) refl (λ h. from_within lo hi (joined_span B s r) rs h) (from_within s.to hi r rs w.2)
    where
      go : (q : Bool) → joins B s r ≡ q → (Within lo hi (joined_span B s r ∷ rs) → Within lo hi (join_from B (joined_span B s r) rs))
          → Within s.to hi (join_from B r rs) → Within lo hi (cond q (join_from B (joined_span B s r) rs) (s ∷ join_from B r rs))
      go true e f g = f (w.0, omega arith, w.2.2)
      go false e f g = (w.0, w.1, g)

  pub joined_within : (lo hi : ℕ) (ss : List (Span A)) → Within lo hi ss → Within lo hi (joined B ss)
  unfolding joined
  joined_within lo hi [] w = w
  joined_within lo hi (s ∷ ss) w = from_within lo hi s ss w

  module _ (merges : (a b : A) → B.mark (B.merge a b) ≡ B.mark a) where
    one : (lo hi t : ℕ) (s r : Span A) (rs : List (Span A)) → s.to ≡ r.from → B.mark s.body ≡ B.mark r.body → Within lo hi (s ∷ r ∷ rs)
        → look B.mark (joined_span B s r ∷ rs) t ≡ look B.mark (s ∷ r ∷ rs) t
    one lo hi t s r rs p q w = go (dec_lt t s.from) (dec_lt t s.to) (dec_lt t r.to)
      where
        J : Span A
        J = joined_span B s r

        m : B.mark J.body ≡ B.mark s.body
        m = merges s.body r.body

        go : Dec (t < s.from) → Dec (t < s.to) → Dec (t < r.to) → look B.mark (J ∷ rs) t ≡ look B.mark (s ∷ r ∷ rs) t
        go (yes a) b c = look_early B.mark t J rs a ∙ sym (look_early B.mark t s (r ∷ rs) a ∙ look_early B.mark t r rs (omega arith))
        go (no a) (yes b) c = look_in B.mark t J rs (omega arith) (omega arith) ∙ ap Some m ∙ sym (look_in B.mark t s (r ∷ rs) (omega arith) b)
        go (no a) (no b) (yes c) =
            look_in B.mark t J rs (omega arith) c ∙ ap Some (m ∙ q)
            ∙ sym (look_late B.mark t s (r ∷ rs) (omega arith) ∙ look_in B.mark t r rs (omega arith) c)
        go (no a) (no b) (no c) =
            look_late B.mark t J rs (omega arith) ∙ sym (look_late B.mark t s (r ∷ rs) (omega arith) ∙ look_late B.mark t r rs (omega arith))

    from_look : (lo hi t : ℕ) (s : Span A) (ss : List (Span A)) → Within lo hi (s ∷ ss) → look B.mark (join_from B s ss) t ≡ look B.mark (s ∷ ss) t
    unfolding join_from look
    from_look lo hi t s [] w = refl
    from_look lo hi t s (r ∷ rs) w =
        go (joins B s r) refl (λ h. from_look lo hi t (joined_span B s r) rs h) (from_look s.to hi t r rs w.2)
      where
        go : (q : Bool) → joins B s r ≡ q
            → (Within lo hi (joined_span B s r ∷ rs) → look B.mark (join_from B (joined_span B s r) rs) t ≡ look B.mark (joined_span B s r ∷ rs) t)
            → look B.mark (join_from B r rs) t ≡ look B.mark (r ∷ rs) t
            → look B.mark (cond q (join_from B (joined_span B s r) rs) (s ∷ join_from B r rs)) t ≡ look B.mark (s ∷ r ∷ rs) t
        go true e f g = let p = joins_true s r e in f (w.0, omega arith, w.2.2) ∙ one lo hi t s r rs p.0 p.1 w
        go false e f g = ap (λ (o : Option Mark). cond (holds s t) (Some (B.mark s.body)) o) g

    pub joined_look : (lo hi t : ℕ) (ss : List (Span A)) → Within lo hi ss → look B.mark (joined B ss) t ≡ look B.mark ss t
    unfolding joined
    joined_look lo hi t [] w = refl
    joined_look lo hi t (s ∷ ss) w = from_look lo hi t s ss w

    differ : (x s : Span A) (ss : List (Span A)) → Differ B x (s ∷ ss) → Differ B x (join_from B s ss)
    unfolding join_from
    differ x s [] d = d
    differ x s (r ∷ rs) d = go (joins B s r) (differ x (joined_span B s r) rs (λ p q. d p (q ∙ merges s.body r.body)))
      where
        go : (q : Bool) → Differ B x (join_from B (joined_span B s r) rs) → Differ B x (cond q (join_from B (joined_span B s r) rs) (s ∷ join_from B r rs))
        go true f = f
        go false f = d

    from_apart : (s : Span A) (ss : List (Span A)) → Apart B (join_from B s ss)
    unfolding join_from
    from_apart s [] = (tt, tt)
    from_apart s (r ∷ rs) = go (joins B s r) refl (from_apart (joined_span B s r) rs) (from_apart r rs)
      where
        go : (q : Bool) → joins B s r ≡ q → Apart B (join_from B (joined_span B s r) rs) → Apart B (join_from B r rs)
            → Apart B (cond q (join_from B (joined_span B s r) rs) (s ∷ join_from B r rs))
        go true e f g = f
        go false e f g = (differ s r rs (joins_false s r e), g)

    pub joined_apart : (ss : List (Span A)) → Apart B (joined B ss)
    unfolding joined
    joined_apart [] = tt
    joined_apart (s ∷ ss) = from_apart s ss
