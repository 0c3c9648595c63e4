-- Numbers and lines as text, in ASCII. Assumes nothing.
use Rattle.std.specs.Prelude.{ℕ, zero, suc, ◌+◌, ◌/◌, ◌%◌, cond, List, [], ◌∷◌, ◌++◌, ltb, ℤ, pos, negsuc}
use Rattle.std.specs.Int.{w64}
use Rattle.wire.specs.Signs.{meant}

-- a digit below 10
abbrev pub digit : ℕ → ℕ
digit d = 48 + d

-- a number's digits, the most significant first and no 0 in front, of a number that has at most k
unfoldable pub digits : ℕ → ℕ → List ℕ
digits zero n = []
digits (suc k) n = let front = digits k (n / 10) in cond (ltb n 10) (digit n ∷ []) (front ++ (digit (n % 10) ∷ []))

-- no number has more digits than itself and one
unfoldable pub decimal : ℕ → List ℕ
decimal n = digits (suc n) n

-- an integer: a minus sign before a negative one
abbrev pub minus : ℕ
minus = 45

abbrev pub integer : ℤ → List ℕ
integer (pos n) = decimal n
integer (negsuc n) = minus ∷ decimal (suc n)

-- the integer that a placed number means
unfoldable pub instant : ℕ → List ℕ
instant x = integer (meant w64 x)

-- ---- a line: a word, the fields behind it, each behind a space, and the line's end

abbrev pub space : ℕ
space = 32

abbrev pub line_end : ℕ
line_end = 10

abbrev pub fields : List (List ℕ) → List ℕ
fields [] = line_end ∷ []
fields (f ∷ fs) = (space ∷ f) ++ fields fs

abbrev pub line : List ℕ → List (List ℕ) → List ℕ
line word fs = word ++ fields fs
