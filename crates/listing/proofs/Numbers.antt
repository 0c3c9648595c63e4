-- Numbers as text: the digits of a number, and how many there can be. Assumes nothing.
use Prim.Native.Nat.{ℕ, zero, suc, ◌+◌, ◌-◌, ◌*◌, ◌/◌, ◌%◌, ◌^◌, ◌≤◌, ◌<◌}
use native.Mathlib.Nat.{pow-suc}
use native.Mathlib.Omega.{arith}
use mathlib.Core.Path.{◌≡◌, refl, sym, ap, ◌∙◌}
use mathlib.Core.Bool.{Bool, true, false, cond}
use mathlib.Core.List.{List, [], ◌∷◌, ◌++◌}
use borrow.Author.Tests.{ltb-true, ltb-false, lt-ltb, le-ltb}
use lib.Dec.{ltb}
use lib.ListN.{length, length-append}
use mir.Syntax.{w64}
use Rattle.wire.specs.Signs.{half, meant}
use Rattle.listing.specs.Text.{digit, digits, decimal, minus, instant}

-- enough is enough: more digits than a number has change nothing
digits_same : (j k n : ℕ) → n ≤ j → n ≤ k → digits (suc j) n ≡ digits (suc k) n
unfolding digits
digits_same zero zero n a b = refl
digits_same zero (suc k) n a b = let l = lt-ltb n 10 (omega arith) in simp l
digits_same (suc j) zero n a b = let l = lt-ltb n 10 (omega arith) in simp l
digits_same (suc j) (suc k) n a b = go (ltb n 10) refl (λ l. digits_same j k (n / 10) (omega arith) (omega arith))
  where
    go : (t : Bool) → ltb n 10 ≡ t → (10 ≤ n → digits (suc j) (n / 10) ≡ digits (suc k) (n / 10))
        → cond t (digit n ∷ []) (digits (suc j) (n / 10) ++ (digit (n % 10) ∷ [])) ≡ cond t (digit n ∷ []) (digits (suc k) (n / 10) ++ (digit (n % 10) ∷ []))
    go true e on = refl
    go false e on = rw (on (ltb-false n 10 e))

-- one digit
pub decimal_one : (n : ℕ) → n < 10 → decimal n ≡ digit n ∷ []
unfolding decimal digits
decimal_one n h = simp (lt-ltb n 10 h)

-- the last digit behind those of the tenth part
digits_more : (k n : ℕ) → 10 ≤ n → digits (suc k) n ≡ digits k (n / 10) ++ (digit (n % 10) ∷ [])
unfolding digits
digits_more k n h = simp (le-ltb n 10 h)

digits_settled : (n m : ℕ) → m < n → digits n m ≡ digits (suc m) m
digits_settled zero m h = absurd (omega arith)
digits_settled (suc n) m h = digits_same n m m (omega arith) (omega arith)

pub decimal_more : (n : ℕ) → 10 ≤ n → decimal n ≡ decimal (n / 10) ++ (digit (n % 10) ∷ [])
unfolding decimal
decimal_more n h = digits_more n n h ∙ ap (λ (l : List ℕ). l ++ (digit (n % 10) ∷ [])) (digits_settled n (n / 10) (omega arith))

-- a number below 10^k, if k is not 0, has at most k digits
pub decimal_short : (k n : ℕ) → n < 10 ^ suc k → length (decimal n) ≤ suc k
decimal_short zero n h = let z : 10 ^ 1 ≡ 10 = refl in rw (decimal_one n (omega arith)) (omega arith)
decimal_short (suc k) n h = go (ltb n 10) refl (decimal_short k (n / 10))
  where
    go : (t : Bool) → ltb n 10 ≡ t → (n / 10 < 10 ^ suc k → length (decimal (n / 10)) ≤ suc k) → length (decimal n) ≤ suc (suc k)
    go true e on = rw (decimal_one n (ltb-true n 10 e)) (omega arith)
    go false e on =
        let p = pow-suc 10 (suc k) in
        let l = length-append (decimal (n / 10)) (digit (n % 10) ∷ []) in
        rw (decimal_more n (ltb-false n 10 e)) (omega (arith, l, on (omega arith)))

-- of 64 bits: at most 20
pub decimal_64 : (n : ℕ) → n < 2 ^ 64 → length (decimal n) ≤ 20
decimal_64 n h = decimal_short 19 n (omega arith)

-- ---- an instant, by the placed number that says it

pub instant_negative : (x : ℕ) → x < half w64 → instant x ≡ minus ∷ decimal (half w64 - x)
unfolding instant meant
instant_negative x h =
    let z : suc (half w64 - suc x) ≡ half w64 - x = omega arith in
    simp (lt-ltb x (half w64) h, z)

pub instant_natural : (x : ℕ) → half w64 ≤ x → instant x ≡ decimal (x - half w64)
unfolding instant meant
instant_natural x h = simp (le-ltb x (half w64) h)

-- at most 21 characters
pub instant_short : (x : ℕ) → x < 2 ^ 64 → length (instant x) ≤ 21
instant_short x h = go (ltb x (half w64)) refl
  where
    go : (t : Bool) → ltb x (half w64) ≡ t → length (instant x) ≤ 21
    go true e =
        let l = ltb-true x (half w64) e in
        rw (instant_negative x l) (omega (arith, decimal_64 (half w64 - x) (omega arith)))
    go false e =
        let l = ltb-false x (half w64) e in
        rw (instant_natural x l) (omega (arith, decimal_64 (x - half w64) (omega arith)))

-- ---- the text of a number says it

-- the number that digits say behind those that said v
abbrev pub said : ℕ → List ℕ → ℕ
said v [] = v
said v (c ∷ cs) = said (10 * v + (c - 48)) cs

said_behind : (v c : ℕ) (cs : List ℕ) → said v (cs ++ (c ∷ [])) ≡ 10 * said v cs + (c - 48)
said_behind v c [] = refl
said_behind v c (d ∷ cs) = said_behind (10 * v + (d - 48)) c cs

digits_said : (k n : ℕ) → n ≤ k → said 0 (digits (suc k) n) ≡ n
unfolding digits
digits_said zero n h = let l = lt-ltb n 10 (omega arith) in simp l (omega arith)
digits_said (suc k) n h = go (ltb n 10) refl (λ l. digits_said k (n / 10) (omega arith))
  where
    go : (t : Bool) → ltb n 10 ≡ t → (10 ≤ n → said 0 (digits (suc k) (n / 10)) ≡ n / 10)
        → said 0 (cond t (digit n ∷ []) (digits (suc k) (n / 10) ++ (digit (n % 10) ∷ []))) ≡ n
    go true e on = omega arith
    go false e on =
        let l = ltb-false n 10 e in
        let b = said_behind 0 (digit (n % 10)) (digits (suc k) (n / 10)) in
        omega (arith, b, on l)

pub decimal_said : (n : ℕ) → said 0 (decimal n) ≡ n
unfolding decimal
decimal_said n = digits_said n n (omega arith)

-- so no two numbers have one text
pub decimal_once : (m n : ℕ) → decimal m ≡ decimal n → m ≡ n
decimal_once m n e = sym (decimal_said m) ∙ ap (said 0) e ∙ decimal_said n
