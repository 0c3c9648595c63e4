-- Totals of a row: the instants of it that spans of a kind hold, by the spans and by counting instants. Assumes nothing.
use Rattle.std.specs.Prelude.{Bool, true, false, cond, List, [], ◌∷◌, ℕ, zero, suc, ◌+◌, ◌-◌, min, max, eqb}
use Rattle.std.specs.Prelude.{Option, None, Some}
use Rattle.spans.specs.Spans.{Mark, phase, unknown, Span, Body}
use Rattle.records.specs.Records.{Rule}

abbrev pub is_phase : ℕ → Mark → Bool
is_phase p (phase q e) = eqb p q
is_phase p unknown = false

abbrev pub is_unknown : Mark → Bool
is_unknown (phase q e) = false
is_unknown unknown = true

abbrev pub any_mark : Mark → Bool
any_mark m = true

-- how much of the row from a to before b lies in spans of the kind k
unfoldable pub total : {A : Type 0} → Body A → (Mark → Bool) → ℕ → ℕ → List (Span A) → ℕ
total B k a b [] = 0
total B k a b (s ∷ ss) = cond (k (B.mark s.body)) (min b s.to - max a s.from) 0 + total B k a b ss

abbrev pub bit : Bool → ℕ
bit true = 1
bit false = 0

-- how many of the n instants from a on have the property
unfoldable pub count : (ℕ → Bool) → ℕ → ℕ → ℕ
count P a zero = 0
count P a (suc n) = bit (P (a + n)) + count P a n

-- of what is shown at an instant
abbrev pub shows : (Mark → Bool) → Option Mark → Bool
shows k None = false
shows k (Some m) = k m

-- no rule governs
abbrev pub free : Option Rule → Bool
free None = true
free (Some r) = false
