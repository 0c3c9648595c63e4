-- Spans of instants, each half-open with a body, and lists of them. Assumes nothing.
use Rattle.std.specs.Prelude.{◌≡◌, ◌⊎◌, Bool, true, false, cond, ◌&&◌, List, [], ◌∷◌, ℕ, ◌≤◌, ◌<◌, min, max, leb, ltb, eqb}
use Rattle.std.specs.Prelude.{Option, None, Some}

-- what a span shows: a phase with its evidence, or that nothing is known
pub data Mark : Type 0 where
  phase : ℕ → ℕ → Mark
  unknown : Mark

abbrev pub same_mark : Mark → Mark → Bool
same_mark (phase p e) (phase q f) = eqb p q && eqb e f
same_mark (phase p e) unknown = false
same_mark unknown (phase q f) = false
same_mark unknown unknown = true

-- from `from` to before `to`
pub record Span (A : Type 0) : Type 0 where
  pub from : ℕ
  pub to : ℕ
  pub body : A

-- a span in front of others, unless it is empty
unfoldable pub keep : {A : Type 0} → ℕ → ℕ → A → List (Span A) → List (Span A)
keep a b x rest = cond (ltb a b) (record { from = a; to = b; body = x } ∷ rest) rest

-- what of the spans lies from lo to before hi
unfoldable pub clip : {A : Type 0} → ℕ → ℕ → List (Span A) → List (Span A)
clip lo hi [] = []
clip lo hi (s ∷ ss) = keep (max lo s.from) (min hi s.to) s.body (clip lo hi ss)

-- where the last of the spans ends; x where there is none
unfoldable pub reach : {A : Type 0} → ℕ → List (Span A) → ℕ
reach x [] = x
reach x (s ∷ ss) = reach s.to ss

abbrev pub holds : {A : Type 0} → Span A → ℕ → Bool
holds s t = leb s.from t && ltb t s.to

-- what the first span that holds t shows
unfoldable pub look : {A B : Type 0} → (A → B) → List (Span A) → ℕ → Option B
look f [] t = None
look f (s ∷ ss) t = cond (holds s t) (Some (f s.body)) (look f ss t)

-- the spans are not empty, in order, do not overlap, and lie from lo to before hi
abbrev pub Within : {A : Type 0} → ℕ → ℕ → List (Span A) → Type 0
Within lo hi [] = lo ≤ hi
Within lo hi (s ∷ ss) = (lo ≤ s.from) × (s.from < s.to) × Within s.to hi ss

-- they stand one after another from a to b, with nothing between them
abbrev pub Tile : {A : Type 0} → ℕ → ℕ → List (Span A) → Type 0
Tile a b [] = a ≡ b
Tile a b (s ∷ ss) = (s.from ≡ a) × (a < s.to) × Tile s.to b ss

-- one of them
abbrev pub In : {A : Type 0} → Span A → List (Span A) → Type 0
In s [] = ⊥
In s (r ∷ rs) = (s ≡ r) ⊎ In s rs

-- what a body shows, and how the bodies of two joined spans become one
pub record Body (A : Type 0) : Type 0 where
  pub mark : A → Mark
  pub merge : A → A → A

-- what a list of spans shows at an instant
abbrev pub segment_at : {A : Type 0} → Body A → List (Span A) → ℕ → Option Mark
segment_at B ss t = look B.mark ss t

abbrev pub joins : {A : Type 0} → Body A → Span A → Span A → Bool
joins B s r = eqb s.to r.from && same_mark (B.mark s.body) (B.mark r.body)

abbrev pub joined_span : {A : Type 0} → Body A → Span A → Span A → Span A
joined_span B s r = record { from = s.from; to = r.to; body = B.merge s.body r.body }

-- the span s, and those after it: the next joins s, or s stands
unfoldable pub join_from : {A : Type 0} → Body A → Span A → List (Span A) → List (Span A)
join_from B s [] = s ∷ []
join_from B s (r ∷ rs) =
    let one = join_from B (joined_span B s r) rs in
    let two = s ∷ join_from B r rs in
    cond (joins B s r) one two

unfoldable pub joined : {A : Type 0} → Body A → List (Span A) → List (Span A)
joined B [] = []
joined B (s ∷ ss) = join_from B s ss

-- two spans, where they touch, do not show the same
abbrev pub Differ : {A : Type 0} → Body A → Span A → List (Span A) → Type 0
Differ B s [] = Unit {0}
Differ B s (r ∷ rs) = s.to ≡ r.from → B.mark s.body ≡ B.mark r.body → ⊥

abbrev pub Apart : {A : Type 0} → Body A → List (Span A) → Type 0
Apart B [] = Unit {0}
Apart B (s ∷ ss) = Differ B s ss × Apart B ss
