-- Fields laid one after the other, and read where they lie. Assumes nothing.
use mathlib.Core.Path.{◌≡◌, refl, sym, ap, ap₂, ◌∙◌}
use mathlib.Core.List.{List, [], ◌∷◌, ◌++◌, append_assoc}
use Prim.Native.Nat.{ℕ, zero, suc, ◌+◌, ◌-◌, ◌/◌, ◌^◌, ◌≤◌, ◌<◌}
use native.Mathlib.Nat.{zero-add, mod-eq_of_lt}
use native.Mathlib.Decide.{dec_lt}
use native.Mathlib.Omega.{arith}
use lib.ListN.{length, get_or, take, drop, length-append, get_or-append}
use lib.Seq.{take-add, drop-drop, get_or-append-add}
use Rattle.wire.specs.Fields.{field, bytes, Field, laid}
use Rattle.wire.proofs.Reading.{field_same}
use Rattle.wire.proofs.Writing.{bytes_length, bytes_field, field_bytes}
use Rattle.records.specs.Valid.{Bytes}

-- how many bytes the fields have
abbrev pub span : List Field → ℕ
span [] = 0
span (f ∷ fs) = f.width + span fs

-- each number fits its width
abbrev pub Narrow : List Field → Type 0
Narrow [] = Unit {0}
Narrow (f ∷ fs) = (f.value < 256 ^ f.width) × Narrow fs

-- read from `from` bytes behind `at` on, s says the fields' numbers
abbrev pub Says : List Field → List ℕ → ℕ → ℕ → Type 0
Says [] s at from = Unit {0}
Says (f ∷ fs) s at from = (field f.width s (at + from) ≡ f.value) × Says fs s at (from + f.width)

pub laid_length : (fs : List Field) → length (laid fs) ≡ span fs
unfolding laid
laid_length [] = refl
laid_length (f ∷ fs) = length-append (bytes f.width f.value) (laid fs) ∙ ap₂ ◌+◌ (bytes_length f.width f.value) (laid_length fs)

-- only the sum of the two places counts
pub moved : (fs : List Field) (s : List ℕ) (at from at' from' : ℕ) → at + from ≡ at' + from' → Says fs s at from → Says fs s at' from'
moved [] s at from at' from' e p = tt
moved (f ∷ fs) s at from at' from' e p =
    (ap (field f.width s) (sym e) ∙ p.0, moved fs s at (from + f.width) at' (from' + f.width) (omega arith) p.1)

-- ---- what is read was laid so

module _ (s : List ℕ) (b : Bytes s) (at : ℕ) where
  pub said : (fs : List Field) (from : ℕ) → Says fs s at from → at + from + span fs ≤ length s → laid fs ≡ take (span fs) (drop (at + from) s)
  unfolding laid
  said [] from p h = refl
  said (f ∷ fs) from p h =
      let w = f.width in
      let one : bytes w f.value ≡ take w (drop (at + from) s) = ap (bytes w) (sym p.0) ∙ field_bytes w s (at + from) b (omega arith) in
      let z : at + (from + w) ≡ at + from + w = omega arith in
      let on : laid fs ≡ take (span fs) (drop w (drop (at + from) s)) = rw (drop-drop w (at + from) s, ← z) (said fs (from + w) p.1 (omega arith)) in
      ap₂ ◌++◌ one on ∙ sym (take-add w (span fs) (drop (at + from) s))

-- ---- what is laid is read so

field_behind : (n : ℕ) (a b : List ℕ) (at : ℕ) → at ≡ length a → field n (a ++ b) at ≡ field n b 0
field_behind n a b at e = field_same n (a ++ b) b at 0 (λ k h. rw (e, zero-add k) (get_or-append-add a b k 0))

pub laid_says : (fs : List Field) → Narrow fs → (a b : List ℕ) (at from : ℕ) → at + from ≡ length a → Says fs (a ++ (laid fs ++ b)) at from
unfolding laid
laid_says [] n a b at from e = tt
laid_says (f ∷ fs) n a b at from e =
    let w = f.width in
    let v = bytes w f.value in
    let one : field w (a ++ (v ++ (laid fs ++ b))) (at + from) ≡ f.value =
    field_behind w a (v ++ (laid fs ++ b)) (at + from) e ∙ bytes_field w f.value (laid fs ++ b) ∙ mod-eq_of_lt n.0 in
    let rest : Says fs (a ++ (v ++ (laid fs ++ b))) at (from + w) =
    rw append_assoc at (laid_says fs n.1 (a ++ v) b at (from + w) (omega (arith, length-append a v, bytes_length w f.value))) in
    rw (append_assoc v (laid fs) b) (one, rest)

-- ---- every element is a byte

pub bytes_append : (a b : List ℕ) → Bytes a → Bytes b → Bytes (a ++ b)
bytes_append a b x y k = go (dec_lt k (length a))
  where
    go : Dec (k < length a) → get_or (a ++ b) k 0 < 256
    go (yes h) = rw (get_or-append a b 0 k h) (x k)
    go (no h) =
        let j = k - length a in
        let z : k ≡ length a + j = omega arith in
        rw z (rw (get_or-append-add a b j 0) (y j))

bytes_bytes : (n x : ℕ) → Bytes (bytes n x)
unfolding bytes
bytes_bytes zero x k = omega arith
bytes_bytes (suc n) x zero = omega arith
bytes_bytes (suc n) x (suc k) = bytes_bytes n (x / 256) k

pub laid_bytes : (fs : List Field) → Bytes (laid fs)
unfolding laid
laid_bytes [] = λ k. omega arith
laid_bytes (f ∷ fs) = bytes_append (bytes f.width f.value) (laid fs) (bytes_bytes f.width f.value) (laid_bytes fs)
