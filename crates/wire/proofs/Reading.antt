-- Laws of fields that are read, over the width. Assumes nothing.
use Rattle.std.proofs.Common.{◌≡◌, ℕ, zero, suc, ◌+◌, ◌*◌, ◌^◌, ◌<◌, ◌≤◌, List, length, get_or, refl, ◌∙◌, add-zero, suc-add, pow-suc, zero-add, arith}
use lib.ListN.{get_or-eq_default}
use Rattle.wire.specs.Fields.{field}

-- one byte
pub field_one : (s : List ℕ) (at : ℕ) → field 1 s at ≡ get_or s at 0
unfolding field
field_one s at = omega arith

-- a byte past the end says 0
pub field_past : (s : List ℕ) (at : ℕ) → length s ≤ at → field 1 s at ≡ 0
field_past s at h = field_one s at ∙ get_or-eq_default s 0 h

-- a field is its first m bytes and then the others
pub field_split : (m n : ℕ) (s : List ℕ) (at : ℕ) → field (m + n) s at ≡ field m s at + 256 ^ m * field n s (at + m)
unfolding field
field_split zero n s at = rw (zero-add, add-zero) (omega arith)
field_split (suc m) n s at =
    let on = field_split m n s (at + 1) in
    let z : at + suc m ≡ at + 1 + m = omega arith in
    rw (suc-add, z, on, pow-suc) (omega arith)

-- where the bytes agree the fields do
pub field_same : (n : ℕ) (s t : List ℕ) (i j : ℕ) → ((k : ℕ) → k < n → get_or s (i + k) 0 ≡ get_or t (j + k) 0) → field n s i ≡ field n t j
unfolding field
field_same zero s t i j h = refl
field_same (suc n) s t i j h =
    let first : get_or s i 0 ≡ get_or t j 0 = rw (add-zero i, add-zero j) at (h 0 (omega arith)) in
    let rest = field_same n s t (i + 1) (j + 1) (λ k l.
    let a : i + 1 + k ≡ i + suc k = omega arith in
    let b : j + 1 + k ≡ j + suc k = omega arith in
    rw (a, b) (h (suc k) (omega arith))) in
    omega arith

-- a field of bytes is below its width's end
pub field_below : (n : ℕ) (s : List ℕ) (at : ℕ) → ((k : ℕ) → get_or s k 0 < 256) → field n s at < 256 ^ n
unfolding field
field_below zero s at h = omega arith
field_below (suc n) s at h =
    let one = h at in
    let rest = field_below n s (at + 1) h in
    rw pow-suc (omega arith)
