-- Laws of fields that are written, over the width. Assumes nothing.
use Rattle.std.proofs.Common.{◌≡◌, ℕ, zero, suc, ◌+◌, ◌-◌, ◌*◌, ◌/◌, ◌%◌, ◌^◌, ◌<◌, ◌≤◌, List, [], ◌∷◌, ◌++◌, length, get_or, take, drop, set, sym, refl, ap, ◌∙◌, append_assoc, append-nil, add-zero, add-suc, suc-add, pow-suc, zero-add, add-one, arith, length-append, length-set, take-append-drop, length-take-le, get_or-drop, drop-cons, get_or-take, take-take, drop-drop, take_at, get_or-append-add, drop_at}
use native.Mathlib.Nat.{pow-succ', one-le-pow, div-div-eq-div-mul}
use lib.Arith.{mod-mul}
use lib.ListN.{get_or-append}
use lib.Seq.{sets, sets-eq, length-sets, take-append-le, drop-append-add}
use Rattle.wire.specs.Fields.{field, bytes, wrote, Inside, Put, Field, laid, writes}
use Rattle.wire.proofs.Reading.{field_same}

-- ---- the bytes of a number

pub bytes_length : (n x : ℕ) → length (bytes n x) ≡ n
unfolding bytes
bytes_length zero x = refl
bytes_length (suc n) x = ap suc (bytes_length n (x / 256))

-- the first m bytes, and then those of what is left of the number
pub bytes_split : (m n x : ℕ) → bytes (m + n) x ≡ bytes m x ++ bytes n (x / 256 ^ m)
unfolding bytes
bytes_split zero n x = let z : x / 256 ^ 0 ≡ x = omega arith in rw (zero-add, z)
bytes_split (suc m) n x =
    let z : x / 256 / 256 ^ m ≡ x / 256 ^ suc m = rw (pow-succ' 256 m) (div-div-eq-div-mul x 256 (256 ^ m)) in
    rw (suc-add, ← z, bytes_split m n (x / 256))

-- what does not fit the width is lost
pub bytes_low : (n x : ℕ) → bytes n (x % 256 ^ n) ≡ bytes n x
unfolding bytes
bytes_low zero x = refl
bytes_low (suc n) x =
    let z : x % 256 ^ suc n ≡ (x / 256 % 256 ^ n) * 256 + x % 256 = rw pow-suc (mod-mul x (one-le-pow n 256 (omega arith)) (omega arith)) in
    let low : x % 256 ^ suc n % 256 ≡ x % 256 = omega arith in
    let rest : x % 256 ^ suc n / 256 ≡ x / 256 % 256 ^ n = omega arith in
    rw (low, rest, bytes_low n (x / 256))

-- read back, they say the number
pub bytes_field : (n x : ℕ) (rest : List ℕ) → field n (bytes n x ++ rest) 0 ≡ x % 256 ^ n
unfolding bytes field
bytes_field zero x rest = omega arith
bytes_field (suc n) x rest =
    let z : x % 256 ^ suc n ≡ (x / 256 % 256 ^ n) * 256 + x % 256 = rw pow-suc (mod-mul x (one-le-pow n 256 (omega arith)) (omega arith)) in
    let on = field_same n (x % 256 ∷ (bytes n (x / 256) ++ rest)) (bytes n (x / 256) ++ rest) 1 0 (λ k l. rw (suc-add 0 k, zero-add k)) in
    omega (arith, bytes_field n (x / 256) rest)

-- and the bytes of a field that was read are those that stood there
pub field_bytes : (n : ℕ) (s : List ℕ) (at : ℕ) → ((k : ℕ) → get_or s k 0 < 256) → Inside at n s → bytes n (field n s at) ≡ take n (drop at s)
unfolding bytes field
field_bytes zero s at b h = refl
field_bytes (suc n) s at b h =
    let x = get_or s at 0 in
    let one = b at in
    let low : (x + 256 * field n s (at + 1)) % 256 ≡ x = omega arith in
    let rest : (x + 256 * field n s (at + 1)) / 256 ≡ field n s (at + 1) = omega arith in
    let on = field_bytes n s (at + 1) b (omega arith) in
    rw (drop-cons s at 0 (omega arith), low, rest, ← (add-one at)) (ap (λ (l : List ℕ). x ∷ l) on)

-- ---- a write

-- a write leaves as many bytes as there were
pub wrote_length : (l : List ℕ) (at : ℕ) (vs : List ℕ) → Inside at (length vs) l → length (wrote l at vs) ≡ length l
unfolding wrote
wrote_length l at vs p = ap length (sym (sets-eq vs l at p)) ∙ length-sets l at vs

-- and every byte before and behind it
pub wrote_before : (l : List ℕ) (at : ℕ) (vs : List ℕ) (i : ℕ) → Inside at (length vs) l → i < at → get_or (wrote l at vs) i 0 ≡ get_or l i 0
unfolding wrote
wrote_before l at vs i p h =
    let long : length (take at l) ≡ at = length-take-le at l (omega arith) in
    simp append_assoc (get_or-append (take at l) (vs ++ drop (at + length vs) l) 0 i (omega arith) ∙ get_or-take at l i 0 h)

pub wrote_behind : (l : List ℕ) (at : ℕ) (vs : List ℕ) (i : ℕ) → Inside at (length vs) l → at + length vs ≤ i → get_or (wrote l at vs) i 0 ≡ get_or l i 0
unfolding wrote
wrote_behind l at vs i p h =
    let n = at + length vs in
    let head = take at l ++ vs in
    let long : length head ≡ n = omega (arith, length-append (take at l) vs, length-take-le at l (omega arith)) in
    let j = i - n in
    let z : i ≡ length head + j = omega arith in
    let y : n + j ≡ i = omega arith in
    ap (λ (k : ℕ). get_or (head ++ drop n l) k 0) z ∙ get_or-append-add head (drop n l) j 0 ∙ get_or-drop n l j 0 ∙ ap (λ (k : ℕ). get_or l k 0) y

-- what was written is read back
pub wrote_field : (n : ℕ) (l : List ℕ) (at x : ℕ) → Inside at n l → field n (wrote l at (bytes n x)) at ≡ x % 256 ^ n
unfolding wrote
wrote_field n l at x p =
    let rest = drop (at + length (bytes n x)) l in
    let long : length (take at l) ≡ at = length-take-le at l (omega arith) in
    field_same n (take at l ++ bytes n x ++ rest) (bytes n x ++ rest) at 0 (λ k h.
    let z : at + k ≡ length (take at l) + k = omega arith in
    rw (z, zero-add k, append_assoc) (get_or-append-add (take at l) (bytes n x ++ rest) k 0))
    ∙ bytes_field n x rest

sets_append : (vs ws l : List ℕ) (i : ℕ) → sets (sets l i vs) (i + length vs) ws ≡ sets l i (vs ++ ws)
sets_append [] ws l i = rw add-zero
sets_append (v ∷ vs) ws l i = rw (add-suc, ← suc-add) (sets_append vs ws (set l i v) (suc i))

-- a write right behind a write is one write of both
pub wrote_wrote : (l : List ℕ) (at n : ℕ) (vs ws : List ℕ) → n ≡ at + length vs → Inside n (length ws) l
    → wrote (wrote l at vs) n ws ≡ wrote l at (vs ++ ws)
unfolding wrote
wrote_wrote l at n vs ws q p =
    let h : at + length vs ≤ length l = omega arith in
    let k : n + length ws ≤ length (sets l at vs) = omega (arith, length-sets l at vs) in
    let j : at + length (vs ++ ws) ≤ length l = omega (arith, length-append vs ws) in
    ap (λ (m : List ℕ). wrote m n ws) (sym (sets-eq vs l at h))
    ∙ sym (sets-eq ws (sets l at vs) n k)
    ∙ ap (λ (m : ℕ). sets (sets l at vs) m ws) q
    ∙ sets_append vs ws l at
    ∙ sets-eq (vs ++ ws) l at j

-- a write right before a write is one write of both
pub wrote_in_front : (l : List ℕ) (at n : ℕ) (vs ws : List ℕ) → n ≡ at + length vs → Inside n (length ws) l
    → wrote (wrote l n ws) at vs ≡ wrote l at (vs ++ ws)
unfolding wrote
wrote_in_front l at n vs ws q p =
    let rest = drop (n + length ws) l in
    let long : length (take n l) ≡ n = length-take-le n l (omega arith) in
    let front : take at (take n l ++ (ws ++ rest)) ≡ take at l = take-append-le at (take n l) (ws ++ rest) (omega arith) ∙ take-take at n l (omega arith) in
    let end : n + length ws ≡ at + length (vs ++ ws) = omega (arith, length-append vs ws) in
    rw (append_assoc (take n l) ws rest, front, ← q, drop_at (take n l) (ws ++ rest) n long) (simp append_assoc (ap (λ (i : ℕ). take at l ++ (vs ++ (ws ++ drop i l))) end))

-- a write over one that is not longer, at the same place
pub wrote_again : (l : List ℕ) (at : ℕ) (vs ws : List ℕ) → length vs ≤ length ws → Inside at (length ws) l → wrote (wrote l at vs) at ws ≡ wrote l at ws
unfolding wrote
wrote_again l at vs ws h p =
    let n = at + length vs in
    let k = length ws - length vs in
    let before = take at l ++ vs in
    let long : length (take at l) ≡ at = length-take-le at l (omega arith) in
    let both : at + length ws ≡ length before + k = omega (arith, length-append (take at l) vs) in
    let more : n + k ≡ at + length ws = omega arith in
    let behind : drop (at + length ws) (before ++ drop n l) ≡ drop (at + length ws) l =
    ap (λ (i : ℕ). drop i (before ++ drop n l)) both ∙ drop-append-add before (drop n l) k ∙ drop-drop k n l ∙ ap (λ (i : ℕ). drop i l) more in
    let front : take at (before ++ drop n l) ≡ take at l = ap (take at) (append_assoc (take at l) vs (drop n l)) ∙ take_at (take at l) (vs ++ drop n l) at long in
    rw (front, behind)

-- as many bytes in place of some that stand between others
over : (a y b v : List ℕ) (n : ℕ) → length a ≡ n → length v ≡ length y → wrote (a ++ (y ++ b)) n v ≡ a ++ (v ++ b)
unfolding wrote
over a y b v n h e =
    let long : length (a ++ y) ≡ n + length v = omega (arith, length-append a y) in
    rw (take_at a (y ++ b) n h, ← (append_assoc a y b), drop_at (a ++ y) b (n + length v) long) (append_assoc a v b)

-- part of what was written, written over by as many bytes
pub wrote_over : (l : List ℕ) (at n : ℕ) (x y z v : List ℕ) → n ≡ at + length x → length v ≡ length y → Inside at (length (x ++ (y ++ z))) l
    → wrote (wrote l at (x ++ (y ++ z))) n v ≡ wrote l at (x ++ (v ++ z))
unfolding wrote
wrote_over l at n x y z v q e p =
    let m = length (x ++ (y ++ z)) in
    let same : length (x ++ (v ++ z)) ≡ m = simp length-append (omega arith) in
    let long : length (take at l ++ x) ≡ n = omega (arith, length-append (take at l) x, length-take-le at l (omega arith)) in
    ap (λ (k : List ℕ). wrote k n v) (parts (take at l) y (drop (at + m) l))
    ∙ over (take at l ++ x) y (z ++ drop (at + m) l) v n long e
    ∙ sym (parts (take at l) v (drop (at + m) l))
    ∙ ap (λ (k : ℕ). take at l ++ (x ++ (v ++ z)) ++ drop (at + k) l) (sym same)
  where
    parts : (a w b : List ℕ) → a ++ (x ++ (w ++ z)) ++ b ≡ (a ++ x) ++ (w ++ (z ++ b))
    parts a w b = simp append_assoc

-- one number, then the others behind it
pub wrote_one : (l : List ℕ) (at v : ℕ) (vs : List ℕ) → Inside at (1 + length vs) l → wrote l at (v ∷ vs) ≡ wrote (set l at v) (at + 1) vs
unfolding wrote
wrote_one l at v vs h =
    let k : suc at + length vs ≤ length (set l at v) = omega (arith, length-set l at v) in
    sym (sets-eq (v ∷ vs) l at (omega arith)) ∙ sets-eq vs (set l at v) (suc at) k ∙ ap (λ (i : ℕ). wrote (set l at v) i vs) (sym (add-one at))

pub wrote_nothing : (l : List ℕ) (at : ℕ) → wrote l at [] ≡ l
unfolding wrote
wrote_nothing l at = simp (append-nil, add-zero, take-append-drop)

-- fields written one after the other are one write of the record's bytes
pub writes_one : (fs : List Field) (l : List ℕ) (at : ℕ) → Inside at (length (laid fs)) l → writes l at fs ≡ wrote l at (laid fs)
unfolding writes laid
writes_one [] l at p = sym (wrote_nothing l at)
writes_one (f ∷ fs) l at p =
    let b = bytes f.width f.value in
    let one = bytes_length f.width f.value in
    let both = length-append b (laid fs) in
    let kept = wrote_length l at b (omega arith) in
    writes_one fs (wrote l at b) (at + f.width) (omega arith)
    ∙ wrote_wrote l at (at + f.width) b (laid fs) (omega arith) (omega arith)

-- ---- what writers leave

pub put_one : (old : List ℕ) (at x : ℕ) → x < 256 → Inside at 1 old → Put old at (bytes 1 x) 1 (set old at x) (at + 1)
unfolding wrote bytes
put_one old at x b h =
    let z : x % 256 ≡ x = omega arith in
    record { same = rw z (sets-eq (x ∷ []) old at h); behind = refl; many = refl; kept = length-set old at x }

-- one writer after another: k bytes in all
pub also : {a b c v w : List ℕ} {p q r n m : ℕ} (k : ℕ) → Put a p v n b q → Put b q w m c r → k ≡ n + m → Inside p k a → Put a p (v ++ w) k c r
also {a} {b} {c} {v} {w} {p} {q} {r} {n} {m} k x y e h =
    let l = length-append v w in
    record {
      same = y.same ∙ ap (λ (s : List ℕ). wrote s q w) x.same
          ∙ wrote_wrote a p q v w (omega (arith, x.behind, x.many)) (omega (arith, x.behind, x.many, y.many));
      behind = omega (arith, x.behind, y.behind);
      many = omega (arith, x.many, y.many);
      kept = y.kept ∙ x.kept;
    }

-- a number's lower half and then its upper half, each of n bytes
pub halves : (n : ℕ) {a b c : List ℕ} {p q r : ℕ} (x : ℕ) → Put a p (bytes n (x % 256 ^ n)) n b q → Put b q (bytes n (x / 256 ^ n)) n c r
    → Inside p (n + n) a
    → Put a p (bytes (n + n) x) (n + n) c r
halves n x low high h = rw (bytes_split n n x, ← (bytes_low n x)) (also (n + n) low high refl h)

-- one call's bytes are the only ones that fit its promise
pub put_once : {a b c v : List ℕ} {p q r n : ℕ} → Put a p v n b q → Put a p v n c r → (b ≡ c) × (q ≡ r)
put_once x y = (x.same ∙ sym y.same, x.behind ∙ sym y.behind)
