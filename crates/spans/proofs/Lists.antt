-- Lists of spans: their order, and what stands at an instant. Assumes nothing.
use mathlib.Core.Path.{◌≡◌, refl, sym, ◌∙◌}
use mathlib.Core.Bool.{Bool, true, false, cond, ◌&&◌}
use mathlib.Core.List.{List, [], ◌∷◌, ◌++◌}
use Rattle.std.specs.Prelude.{None, Some}
use Prim.Native.Nat.{ℕ, ◌≤◌, ◌<◌, min, max}
use native.Mathlib.Decide.{dec_lt}
use native.Mathlib.Omega.{arith}
use borrow.Author.Tests.{lt-ltb, le-ltb, le-leb, lt-leb, leb-true, ltb-true}
use lib.Dec.{leb, ltb}
use Rattle.wire.proofs.Signs.{and_no}
use Rattle.spans.specs.Spans.{Span, keep, clip, reach, look, holds, Within, In}
use mathlib.Core.Logic.{inl, inr}

module _ {A : Type 0} where
  pub ordered : (lo hi : ℕ) (ss : List (Span A)) → Within lo hi ss → lo ≤ hi
  ordered lo hi [] w = w
  ordered lo hi (s ∷ ss) w = omega (arith, ordered s.to hi ss w.2)

  pub lower : (a lo hi : ℕ) (ss : List (Span A)) → a ≤ lo → Within lo hi ss → Within a hi ss
  lower a lo hi [] h w = omega arith
  lower a lo hi (s ∷ ss) h w = (omega arith, w.1, w.2)

  pub append : (a m b : ℕ) (xs ys : List (Span A)) → Within a m xs → Within m b ys → Within a b (xs ++ ys)
  append a m b [] ys w u = lower a m b ys w u
  append a m b (s ∷ ss) ys w u = (w.0, w.1, append s.to m b ss ys w.2 u)

  pub holds_yes : (s : Span A) (t : ℕ) → s.from ≤ t → t < s.to → holds s t ≡ true
  holds_yes s t a b = simp (le-leb s.from t a, lt-ltb t s.to b)

  pub holds_early : (s : Span A) (t : ℕ) → t < s.from → holds s t ≡ false
  holds_early s t a = simp (lt-leb s.from t a)

  pub holds_late : (s : Span A) (t : ℕ) → s.to ≤ t → holds s t ≡ false
  holds_late s t a = simp (le-ltb t s.to a, and_no)

  pub keep_within : (a c b from to : ℕ) (x : A) (rest : List (Span A)) → a ≤ from → a ≤ c → to ≤ c → Within c b rest → Within a b (keep from to x rest)
  unfolding keep
  keep_within a c b from to x rest h i j w = go (ltb from to) refl
    where
      go : (q : Bool) → ltb from to ≡ q → Within a b (cond q (record { from = from; to = to; body = x } ∷ rest) rest)
      go true e = (h, ltb-true from to e, lower to c b rest j w)
      go false e = lower a c b rest i w

  pub clip_within : (a b c lo hi : ℕ) (ss : List (Span A)) → c ≤ max lo a → c ≤ hi → Within a b ss → Within c hi (clip lo hi ss)
  unfolding clip
  clip_within a b c lo hi [] h i w = i
  clip_within a b c lo hi (s ∷ ss) h i w =
      let on = clip_within s.to b (max c (min hi s.to)) lo hi ss (omega arith) (omega arith) w.2 in
      keep_within c (max c (min hi s.to)) hi (max lo s.from) (min hi s.to) s.body (clip lo hi ss) (omega arith) (omega arith) (omega arith) on

  pub reach_within : (c h x : ℕ) (ss : List (Span A)) → c ≤ x → Within c h ss → Within c (reach x ss) ss
  unfolding reach
  reach_within c h x [] i w = i
  reach_within c h x (s ∷ ss) i w = (w.0, w.1, reach_within s.to h s.to ss (omega arith) w.2)

  pub reach_most : (c h x : ℕ) (ss : List (Span A)) → x ≤ h → Within c h ss → reach x ss ≤ h
  unfolding reach
  reach_most c h x [] i w = i
  reach_most c h x (s ∷ ss) i w = reach_most s.to h s.to ss (ordered s.to h ss w.2) w.2

module _ {A B : Type 0} (f : A → B) (t : ℕ) where
  pub look_in : (s : Span A) (ss : List (Span A)) → s.from ≤ t → t < s.to → look f (s ∷ ss) t ≡ Some (f s.body)
  unfolding look
  look_in s ss a b = simp (holds_yes s t a b)

  pub look_early : (s : Span A) (ss : List (Span A)) → t < s.from → look f (s ∷ ss) t ≡ look f ss t
  unfolding look
  look_early s ss a = simp (holds_early s t a)

  pub look_late : (s : Span A) (ss : List (Span A)) → s.to ≤ t → look f (s ∷ ss) t ≡ look f ss t
  unfolding look
  look_late s ss a = simp (holds_late s t a)

  pub before : (lo hi : ℕ) (ss : List (Span A)) → t < lo → Within lo hi ss → look f ss t ≡ None
  unfolding look
  before lo hi [] h w = refl
  before lo hi (s ∷ ss) h w = look_early s ss (omega arith) ∙ before s.to hi ss (omega arith) w.2

  pub after : (lo hi : ℕ) (ss : List (Span A)) → hi ≤ t → Within lo hi ss → look f ss t ≡ None
  unfolding look
  after lo hi [] h w = refl
  after lo hi (s ∷ ss) h w = look_late s ss (omega (arith, ordered s.to hi ss w.2)) ∙ after s.to hi ss h w.2

  -- of two lists in a row, where the second has nothing, or the first
  pub on_left : (xs ys : List (Span A)) → look f ys t ≡ None → look f (xs ++ ys) t ≡ look f xs t
  unfolding look
  on_left [] ys e = e
  on_left (s ∷ ss) ys e = simp (on_left ss ys e)

  pub on_right : (xs ys : List (Span A)) → look f xs t ≡ None → look f (xs ++ ys) t ≡ look f ys t
  unfolding look
  on_right [] ys e = refl
  on_right (s ∷ ss) ys e = go (holds s t) e (λ h. on_right ss ys h)
    where
      go : (q : Bool) → cond q (Some (f s.body)) (look f ss t) ≡ None → (look f ss t ≡ None → look f (ss ++ ys) t ≡ look f ys t)
          → cond q (Some (f s.body)) (look f (ss ++ ys) t) ≡ look f ys t
      go true h on = cc
      go false h on = on h

  pub keep_in : (from to : ℕ) (x : A) (rest : List (Span A)) → from ≤ t → t < to → look f (keep from to x rest) t ≡ Some (f x)
  unfolding keep
  keep_in from to x rest a b =
      let e : ltb from to ≡ true = lt-ltb from to (omega arith) in
      rw e (look_in (record { from = from; to = to; body = x }) rest a b)

  pub keep_out : (from to : ℕ) (x : A) (rest : List (Span A)) → holds (record { from = from; to = to; body = x }) t ≡ false
      → look f (keep from to x rest) t ≡ look f rest t
  unfolding keep look
  keep_out from to x rest h = go (ltb from to)
    where
      go : (q : Bool) → look f (cond q (record { from = from; to = to; body = x } ∷ rest) rest) t ≡ look f rest t
      go true = simp h
      go false = refl

  pub keep_early : (from to : ℕ) (x : A) (rest : List (Span A)) → t < from → look f (keep from to x rest) t ≡ look f rest t
  keep_early from to x rest h = keep_out from to x rest (holds_early (record { from = from; to = to; body = x }) t h)

  pub keep_late : (from to : ℕ) (x : A) (rest : List (Span A)) → to ≤ t → look f (keep from to x rest) t ≡ look f rest t
  keep_late from to x rest h = keep_out from to x rest (holds_late (record { from = from; to = to; body = x }) t h)

  -- clipping changes nothing from lo to before hi
  pub clip_look : (lo hi : ℕ) (ss : List (Span A)) → lo ≤ t → t < hi → look f (clip lo hi ss) t ≡ look f ss t
  unfolding clip
  clip_look lo hi [] a b = refl
  clip_look lo hi (s ∷ ss) a b = go (clip_look lo hi ss a b) (dec_lt t s.from) (dec_lt t s.to)
    where
      go : look f (clip lo hi ss) t ≡ look f ss t → Dec (t < s.from) → Dec (t < s.to) → look f (keep (max lo s.from) (min hi s.to) s.body (clip lo hi ss)) t ≡ look f (s ∷ ss) t
      go on (yes p) q = keep_early (max lo s.from) (min hi s.to) s.body (clip lo hi ss) (omega arith) ∙ on ∙ sym (look_early s ss p)
      go on (no p) (no q) = keep_late (max lo s.from) (min hi s.to) s.body (clip lo hi ss) (omega arith) ∙ on ∙ sym (look_late s ss (omega arith))
      go on (no p) (yes q) = keep_in (max lo s.from) (min hi s.to) s.body (clip lo hi ss) (omega arith) (omega arith) ∙ sym (look_in s ss (omega arith) q)

-- what is found is a span that holds the instant
pub look_found : {A B : Type 0} (f : A → B) (t : ℕ) (b : B) (ss : List (Span A)) → look f ss t ≡ Some b
    → (s : Span A) × In s ss × (f s.body ≡ b) × (s.from ≤ t) × (t < s.to)
unfolding look
look_found f t b [] e = absurd (none_some e)
  where
    none_some : None ≡ Some b → ⊥
    none_some q = let y : ◌≡◌ {A = ℕ} 0 1 = cc in omega arith
look_found {A} f t b (s ∷ ss) e = go (leb s.from t) refl (ltb t s.to) refl (λ q. look_found f t b ss q) e
  where
    more : ((r : Span A) × In r ss × (f r.body ≡ b) × (r.from ≤ t) × (t < r.to))
        → (r : Span A) × In r (s ∷ ss) × (f r.body ≡ b) × (r.from ≤ t) × (t < r.to)
    more g = (g.0, inr g.1, g.2, g.3, g.4)

    go : (p : Bool) → leb s.from t ≡ p → (q : Bool) → ltb t s.to ≡ q
        → (look f ss t ≡ Some b → (r : Span A) × In r ss × (f r.body ≡ b) × (r.from ≤ t) × (t < r.to))
        → cond (p && q) (Some (f s.body)) (look f ss t) ≡ Some b
        → (r : Span A) × In r (s ∷ ss) × (f r.body ≡ b) × (r.from ≤ t) × (t < r.to)
    go true x true y on h = (s, inl refl, cc, leb-true s.from t x, ltb-true t s.to y)
    go true x false y on h = more (on h)
    go false x true y on h = more (on h)
    go false x false y on h = more (on h)
