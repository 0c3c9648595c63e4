-- Little-endian fields of a list of bytes, read and written. Assumes nothing.
use Rattle.std.specs.Prelude.{◌≡◌, ℕ, zero, suc, ◌+◌, ◌*◌, ◌/◌, ◌%◌, ◌≤◌, List, [], ◌∷◌, ◌++◌, length, take, drop, slice_index}

-- the number that the n bytes from `at` on say, the lowest first; a byte past the end says 0
unfoldable pub field : ℕ → List ℕ → ℕ → ℕ
field zero s at = 0
field (suc n) s at = slice_index s at + 256 * field n s (at + 1)

-- the n bytes that say x, the lowest first
unfoldable pub bytes : ℕ → ℕ → List ℕ
bytes zero x = []
bytes (suc n) x = x % 256 ∷ bytes n (x / 256)

-- `old`, with vs in place of what stood from `at` on
unfoldable pub wrote : List ℕ → ℕ → List ℕ → List ℕ
wrote old at vs = take at old ++ vs ++ drop (at + length vs) old

-- the n bytes from `at` on lie in the list
abbrev pub Inside : ℕ → ℕ → List ℕ → Type 0
Inside at n s = at + n ≤ length s

-- what a writer leaves: vs, n bytes, from `at` on, and nothing else altered; it answers the place behind them
pub record Put (old : List ℕ) (at : ℕ) (vs : List ℕ) (n : ℕ) (new : List ℕ) (next : ℕ) : Type 0 where
  pub same : new ≡ wrote old at vs
  pub behind : next ≡ at + n
  pub many : length vs ≡ n
  pub kept : length new ≡ length old

-- a field of a record: how many bytes, and the number that they say
pub record Field : Type 0 where
  pub width : ℕ
  pub value : ℕ

-- the bytes of several fields, one after the other
unfoldable pub laid : List Field → List ℕ
laid [] = []
laid (f ∷ fs) = bytes f.width f.value ++ laid fs

-- the fields written one after the other from `at` on
unfoldable pub writes : List ℕ → ℕ → List Field → List ℕ
writes old at [] = old
writes old at (f ∷ fs) = writes (wrote old at (bytes f.width f.value)) (at + f.width) fs
