-- Which rule governs a date: document 01, phase rule 1. Dates are numbers since 1899-12-25. Assumes nothing.
use Rattle.std.specs.Prelude.{ℕ, zero, suc, ◌/◌, ◌%◌, ◌^◌, ◌<◌, ◌≡◌, Bool, true, false, not, cond, ◌&&◌, ◌||◌, List, [], ◌∷◌, ltb, leb, eqb}
use Rattle.std.specs.Prelude.{Option, None, Some}
use Rattle.calendar.specs.Answers.{weekday_of}
use Rattle.records.specs.Records.{Rule, rule_at}
use Rattle.venue.specs.Opening.{day_of}

-- weekly 10, announced 20, holiday and shortened 30
abbrev pub precedence : ℕ → ℕ
precedence code = cond (eqb code 0) 10 (cond (eqb code 3) 20 30)

-- a mask has the bit of a weekday: bit 0 Monday, bit 6 Sunday
abbrev pub marked : ℕ → ℕ → Bool
marked mask weekday = eqb (mask / 2 ^ weekday % 2) 1

abbrev pub from_to : ℕ → ℕ → ℕ → Bool
from_to first last d = leb first d && leb d last

-- a rule applies on its days; a weekly rule on those of its weekdays
abbrev pub applies : Rule → ℕ → Bool
applies r d = from_to (day_of r.first) (day_of r.last) d && (not (eqb r.code 0) || marked r.mask (weekday_of d))

-- by precedence, then by first day, r is not lower than b
abbrev pub not_lower : Rule → Rule → Bool
not_lower r b =
    ltb (precedence b.code) (precedence r.code)
    || (eqb (precedence b.code) (precedence r.code) && leb (day_of b.first) (day_of r.first))

-- ---- the choice, among any things x that have a rule f x: rules themselves, or their places in a book

-- x takes the place of the best so far
abbrev pub takes : {A : Type 0} → (A → Rule) → Option A → A → ℕ → Bool
takes f None x d = applies (f x) d
takes f (Some b) x d = applies (f x) d && not_lower (f x) (f b)

unfoldable pub governing_from : {A : Type 0} → (A → Rule) → Option A → List A → ℕ → Option A
governing_from f best [] d = best
governing_from f best (x ∷ xs) d = governing_from f (cond (takes f best x d) (Some x) best) xs d

-- the highest that applies, the last listed of those that tie
abbrev pub governing_of : {A : Type 0} → (A → Rule) → List A → ℕ → Option A
governing_of f xs d = governing_from f None xs d

-- the rule that governs a date, and where it stands, of those at the places of a book
abbrev pub governing_rule : List Rule → ℕ → Option Rule
governing_rule rs d = governing_of (λ (r : Rule). r) rs d

abbrev pub governing_place : List ℕ → List ℕ → ℕ → Option ℕ
governing_place s places d = governing_of (rule_at s) places d

-- ---- what governing means

abbrev pub nth : {A : Type 0} → List A → ℕ → Option A
nth [] i = None
nth (x ∷ xs) zero = Some x
nth (x ∷ xs) (suc i) = nth xs i

-- its rule applies, no applying rule is higher, and of those listed after it none that applies is as high
pub record Governs {A : Type 0} (f : A → Rule) (xs : List A) (d : ℕ) (x : A) : Type 0 where
  pub place : ℕ
  pub listed : nth xs place ≡ Some x
  pub on : applies (f x) d ≡ true
  pub highest : (i : ℕ) (y : A) → nth xs i ≡ Some y → applies (f y) d ≡ true → not_lower (f x) (f y) ≡ true
  pub last : (i : ℕ) (y : A) → place < i → nth xs i ≡ Some y → applies (f y) d ≡ true → not_lower (f y) (f x) ≡ false
