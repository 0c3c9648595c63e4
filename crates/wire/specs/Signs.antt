-- Signed numbers as numbers that are never negative: each plus half of its width's range. Assumes nothing.
use Rattle.std.specs.Prelude.{ℕ, suc, ◌+◌, ◌-◌, ◌%◌, ◌^◌, cond, ◌&&◌, ℤ, pos, negsuc, int_le}
use Rattle.std.specs.Prelude.{Option, None, Some}
use Rattle.std.proofs.Math.IntN.{sub_ℕ}
use Rattle.std.specs.Int.{Width}
use mir.Val.{bits, hbits}

-- half of the range: 2^31 at 32 bits, 2^63 at 64
abbrev pub half : Width → ℕ
half w = 2 ^ hbits w

-- an integer counted from an origin, which is e there
abbrev pub since : ℕ → ℤ → ℕ
since e (pos n) = n + e
since e (negsuc n) = e - suc n

-- an integer of the width, plus half of the range
unfoldable pub placed : Width → ℤ → ℕ
placed w z = since (half w) z

-- the integer that a placed number means
unfoldable pub meant : Width → ℕ → ℤ
meant w x = sub_ℕ x (half w)

-- the bits of a two's-complement field as the placed number, and a placed number as the bits
abbrev pub turned : Width → ℕ → ℕ
turned w x = (x + half w) % 2 ^ bits w

-- the integer that the bits of a two's-complement field mean
abbrev pub signed : Width → ℕ → ℤ
signed w x = meant w (turned w x)

-- n, if it lies from lo to hi
unfoldable pub between : ℤ → ℤ → ℤ → Option ℤ
between lo hi n = cond (int_le lo n && int_le n hi) (Some n) None
