-- Text that is written piece by piece. Assumes nothing.
use Prim.Native.Nat.{ℕ, ◌+◌, ◌%◌, ◌≤◌, ◌<◌}
use native.Mathlib.Omega.{arith}
use mathlib.Core.Path.{◌≡◌, refl, sym, ap, ◌∙◌}
use mathlib.Core.List.{List, [], ◌∷◌, ◌++◌, append_assoc, append-nil}
use native.Mathlib.Numerals.{add-one}
use lib.ListN.{length, get_or, drop, length-append, drop_of_length-le}
use lib.Seq.{drop-cons}
use Rattle.wire.specs.Fields.{bytes}
use Rattle.wire.proofs.Writing.{also, wrote_nothing}
use Rattle.listing.specs.Private.{TextFits, Puts}

-- a byte is its one byte
pub one_byte : (x : ℕ) → x < 256 → bytes 1 x ≡ x ∷ []
unfolding bytes
one_byte x h = let z : x % 256 ≡ x = omega arith in rw z

-- what goes in front of something that fits fits, and so does what goes behind it once it is written
pub front : {a v : List ℕ} {p : ℕ} (w : List ℕ) → TextFits p (v ++ w) a → TextFits p v a
front {v = v} w h = record { inside = omega (arith, length-append v w, h.inside) }

pub rest : {a b v w : List ℕ} {p q : ℕ} → TextFits p (v ++ w) a → Puts a p v b q → TextFits q w b
rest {v = v} {w = w} h x = record { inside = omega (arith, length-append v w, h.inside, x.behind, x.kept) }

pub both : {a b c v w : List ℕ} {p q r : ℕ} → TextFits p (v ++ w) a → Puts a p v b q → Puts b q w c r → Puts a p (v ++ w) c r
both {v = v} {w = w} h x y = also (length (v ++ w)) x y (length-append v w) h.inside

pub nothing : (a : List ℕ) (p : ℕ) → Puts a p [] a p
nothing a p = record { same = sym (wrote_nothing a p); behind = omega arith; many = refl; kept = refl }

-- ---- a loop that writes a text: what is written, and what is left of it

pub record Going (old : List ℕ) (at : ℕ) (whole left new : List ℕ) (next : ℕ) : Type 0 where
  pub done : List ℕ
  pub put : Puts old at done new next
  pub same : done ++ left ≡ whole
  pub room : TextFits at whole old

pub begins : (old : List ℕ) (at : ℕ) (whole : List ℕ) → TextFits at whole old → Going old at whole whole old at
begins old at whole h = record { done = []; put = nothing old at; same = refl; room = h }

pub fits_next : {old whole v new : List ℕ} {at next : ℕ} (left : List ℕ) → Going old at whole (v ++ left) new next → TextFits next v new
fits_next {v = v} left g =
    let l = ap length g.same in
    record { inside = omega (arith, g.room.inside, g.put.behind, g.put.kept, l, length-append g.done (v ++ left), length-append v left) }

pub goes_on : {old whole v left new newer : List ℕ} {at next after : ℕ} → Going old at whole (v ++ left) new next → Puts new next v newer after
    → Going old at whole left newer after
goes_on {old = old} {v = v} {left = left} {at = at} g x =
    let d = g.done in
    let l = ap length g.same in
    let h : TextFits at (d ++ v) old = record { inside = omega (arith, g.room.inside, l, length-append d (v ++ left), length-append v left, length-append d v) } in
    record { done = d ++ v; put = both h g.put x; same = append_assoc d v left ∙ g.same; room = g.room }

pub ends : {old whole new : List ℕ} {at next : ℕ} → Going old at whole [] new next → Puts old at whole new next
ends {whole = whole} g = let e : g.done ≡ whole = sym (append-nil g.done) ∙ g.same in rw e at g.put

-- the next of a list's bytes, and those behind it
pub one_more : {old new : List ℕ} {at next : ℕ} (w : List ℕ) (i : ℕ) → i < length w → Going old at w (drop i w) new next
    → Going old at w ((get_or w i 0 ∷ []) ++ drop (i + 1) w) new next
one_more {old} {new} {at} {next} w i h g =
    let e : drop i w ≡ (get_or w i 0 ∷ []) ++ drop (i + 1) w = rw (add-one, drop-cons w i 0) in
    rw e at g

pub no_more : {old new : List ℕ} {at next : ℕ} (w : List ℕ) (i : ℕ) → length w ≤ i → Going old at w (drop i w) new next → Puts old at w new next
no_more w i h g = ends (rw (drop_of_length-le w h) at g)
