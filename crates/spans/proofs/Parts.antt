-- A timeline in three parts: what is unknown before coverage and after it joins nothing. Assumes nothing.
use mathlib.Core.Path.{◌≡◌, refl, ap, ap₂, ◌∙◌}
use mathlib.Core.Bool.{Bool, true, false, cond, ◌&&◌}
use mathlib.Core.List.{List, [], ◌∷◌, ◌++◌}
use Prim.Native.Nat.{ℕ, ◌<◌, min, max}
use native.Mathlib.Omega.{arith}
use borrow.Author.Tests.{ne_eqb}
use lib.Dec.{ltb, eqb}
use Rattle.wire.proofs.Signs.{and_no}
use Rattle.spans.specs.Spans.{Mark, phase, unknown, Span, Body, keep, same_mark, joins, joined_span, join_from, joined}
use Rattle.spans.specs.Timeline.{Venue, Part, turns, walk, unjoined, timeline}

module _ {A : Type 0} (B : Body A) (gap : A) (lacks : B.mark gap ≡ unknown) where
  -- every one of them shows a phase
  abbrev pub Phases : List (Span A) → Type 0
  Phases [] = Unit {0}
  Phases (s ∷ ss) = ((p : ℕ) × ((e : ℕ) × (B.mark s.body ≡ phase p e))) × Phases ss

  abbrev Shows : Span A → Type 0
  Shows s = (p : ℕ) × ((e : ℕ) × (B.mark s.body ≡ phase p e))

  abbrev hole : ℕ → ℕ → Span A
  hole a b = record { from = a; to = b; body = gap }

  phase_gap : (s : Span A) → Shows s → (a b : ℕ) → joins B s (hole a b) ≡ false
  phase_gap s h a b = ap₂ (λ (x y : Mark). eqb s.to a && same_mark x y) h.1.1 lacks ∙ and_no (eqb s.to a)

  gap_phase : (s : Span A) → Shows s → (a b : ℕ) → joins B (hole a b) s ≡ false
  gap_phase s h a b = ap₂ (λ (x y : Mark). eqb b s.from && same_mark x y) lacks h.1.1 ∙ and_no (eqb b s.from)

  gap_gap : (a b c d : ℕ) → b < c → joins B (hole a b) (hole c d) ≡ false
  gap_gap a b c d h = ap (λ (q : Bool). q && same_mark (B.mark gap) (B.mark gap)) (ne_eqb b c (λ e. omega arith))

  module _ (merges : (a b : A) → B.mark (B.merge a b) ≡ B.mark a) where
    shows_joined : (s r : Span A) → Shows s → Shows (joined_span B s r)
    shows_joined s r h = (h.0, (h.1.0, merges s.body r.body ∙ h.1.1))

    -- a gap behind phases
    behind : (s : Span A) → Shows s → (ss : List (Span A)) → Phases ss → (c d : ℕ)
        → join_from B s (ss ++ keep c d gap []) ≡ join_from B s ss ++ keep c d gap []
    unfolding join_from keep
    behind s h [] t c d = go (ltb c d)
      where
        go : (q : Bool) → join_from B s (cond q (hole c d ∷ []) []) ≡ (s ∷ []) ++ cond q (hole c d ∷ []) []
        go true = ap (λ (q : Bool). cond q (joined_span B s (hole c d) ∷ []) (s ∷ hole c d ∷ [])) (phase_gap s h c d)
        go false = refl
    behind s h (r ∷ rs) t c d = go (joins B s r) (behind (joined_span B s r) (shows_joined s r h) rs t.1 c d) (behind r t.0 rs t.1 c d)
      where
        go : (q : Bool) → join_from B (joined_span B s r) (rs ++ keep c d gap []) ≡ join_from B (joined_span B s r) rs ++ keep c d gap []
            → join_from B r (rs ++ keep c d gap []) ≡ join_from B r rs ++ keep c d gap []
            → cond q (join_from B (joined_span B s r) (rs ++ keep c d gap [])) (s ∷ join_from B r (rs ++ keep c d gap []))
            ≡ cond q (join_from B (joined_span B s r) rs) (s ∷ join_from B r rs) ++ keep c d gap []
        go true one two = one
        go false one two = ap (λ (l : List (Span A)). s ∷ l) two

    after : (ss : List (Span A)) → Phases ss → (c d : ℕ) → joined B (ss ++ keep c d gap []) ≡ joined B ss ++ keep c d gap []
    unfolding joined join_from keep
    after [] t c d = go (ltb c d)
      where
        go : (q : Bool) → joined B (cond q (hole c d ∷ []) []) ≡ cond q (hole c d ∷ []) []
        go true = refl
        go false = refl
    after (s ∷ ss) t c d = behind s t.0 ss t.1 c d

    -- and a gap before them, which does not touch the one behind
    before : (a b : ℕ) (ss : List (Span A)) → Phases ss → (c d : ℕ) → b < c
        → joined B (keep a b gap (ss ++ keep c d gap [])) ≡ keep a b gap (joined B ss ++ keep c d gap [])
    unfolding joined join_from keep
    before a b ss t c d h = go (ltb a b) ss t
      where
        alone : (q : Bool) → join_from B (hole a b) (cond q (hole c d ∷ []) []) ≡ hole a b ∷ cond q (hole c d ∷ []) []
        alone true = ap (λ (q : Bool). cond q (joined_span B (hole a b) (hole c d) ∷ []) (hole a b ∷ hole c d ∷ [])) (gap_gap a b c d h)
        alone false = refl

        go : (q : Bool) (ss : List (Span A)) → Phases ss
            → joined B (cond q (hole a b ∷ (ss ++ keep c d gap [])) (ss ++ keep c d gap [])) ≡ cond q (hole a b ∷ (joined B ss ++ keep c d gap [])) (joined B ss ++ keep c d gap [])
        go false ss t = after ss t c d
        go true [] t = alone (ltb c d)
        go true (s ∷ ss) t =
            ap (λ (q : Bool). cond q (join_from B (joined_span B (hole a b) s) (ss ++ keep c d gap [])) (hole a b ∷ join_from B s (ss ++ keep c d gap []))) (gap_phase s t.0 a b)
            ∙ ap (λ (l : List (Span A)). hole a b ∷ l) (behind s t.0 ss t.1 c d)

    module _ (v : Venue A) (c w : Part) (covers : c.start < c.end) where
      abbrev lo : ℕ
      lo = max w.start c.start

      abbrev hi : ℕ
      hi = min w.end c.end

      -- unknown before coverage, the joined walk, unknown after
      pub in_parts_law : Phases (walk v hi turns lo)
          → timeline B v gap c w
          ≡ keep w.start (min w.end c.start) gap (joined B (walk v hi turns lo) ++ keep (max w.start c.end) w.end gap [])
      unfolding timeline unjoined
      in_parts_law t = before w.start (min w.end c.start) (walk v hi turns lo) t (max w.start c.end) w.end (omega arith)
