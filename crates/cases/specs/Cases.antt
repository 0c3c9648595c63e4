-- Lists of cases: the numbers of a record, and counts of what was met. Assumes nothing.
use Rattle.std.specs.Prelude.{ℕ, ◌+◌, ◌-◌, ◌*◌, ◌%◌, ◌^◌, Bool, cond, ◌&&◌, List, length, nat_le, nat_lt, slice_index, slice_set}
use Rattle.std.specs.Int.{w64}
use Rattle.wire.specs.Fields.{field}
use Rattle.wire.specs.Signs.{half, turned}

-- the signed number at a place of the record that stands at `at`, behind its kind, placed; 0 where the list ends before it
abbrev pub number_at : List ℕ → ℕ → ℕ → ℕ
number_at list at place = cond (nat_le (at + (8 * place + 9)) (length list)) (turned w64 (field 8 list (at + (8 * place + 1)))) (half w64)

-- the number that a placed one means, from 0 to 2^32 - 1; 0 for another
abbrev pub counted : ℕ → ℕ
counted p = cond (nat_le (half w64) p && nat_lt (p - half w64) (2 ^ 32)) (p - half w64) 0

-- one more at a place, if there is such a place
abbrev pub more : List ℕ → ℕ → List ℕ
more counts place = slice_set counts place ((slice_index counts place + 1) % 2 ^ 64)

-- one more of a kind, and one more at place 0 unless the case was answered as said
abbrev pub met_of : List ℕ → ℕ → Bool → List ℕ
met_of counts kind same = cond same (more counts kind) (more (more counts kind) 0)
