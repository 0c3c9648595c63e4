-- Replies that meet what lending means, and that no other does. Assumes nothing.
use Prim.Native.Nat.{ℕ, ◌≤◌, ◌<◌}
use native.Mathlib.Nat.{zero-add}
use mathlib.Core.Path.{◌≡◌, sym, ap, ◌∙◌}
use mathlib.Core.List.{List, ◌++◌}
use borrow.Author.Tests.{lt-ltb, le-ltb, eq-eqb, ne_eqb}
use lib.ListN.{length, drop}
use Rattle.wire.specs.Fields.{wrote}
use Rattle.lend.specs.Lending.{verdict, Lent}
use Rattle.lend.specs.declared.Reply.{Reply}

reply_by : (n n' l l' : ℕ) → n ≡ n' → l ≡ l' → ◌≡◌ {A = Reply} (record { number = n; length = l }) (record { number = n'; length = l' })
reply_by n n' l l' p q = cc

-- no second answer fits
pub lent_once : {number : ℕ} {answer room left left' : List ℕ} {r r' : Reply} → Lent number answer room left r → Lent number answer room left' r'
    → (left ≡ left') × (r ≡ r')
lent_once {r = r} {r' = r'} a b =
    (a.bytes ∙ sym b.bytes, reply_by r.number r'.number r.length r'.length (a.says ∙ sym b.says) (a.long ∙ sym b.long))

module _ (answer room : List ℕ) where
  -- the question is refused
  pub lent_refused : {number : ℕ} → (number ≡ 0 → ⊥) → Lent number answer room room (record { number = number; length = 0 })
  unfolding verdict
  lent_refused {number} n =
      let e = ne_eqb number 0 n in
      record { says = simp e; long = simp e; bytes = simp e }

  -- there is too little room
  pub lent_short : {number : ℕ} → number ≡ 0 → length room < length answer → Lent number answer room room (record { number = 16; length = 0 })
  unfolding verdict
  lent_short {number} z h =
      let e = eq-eqb number 0 z in
      let l = lt-ltb (length room) (length answer) h in
      record { says = simp (e, l); long = simp (e, l); bytes = simp (e, l) }

  -- it is written
  pub lent_written : {number : ℕ} → number ≡ 0 → length answer ≤ length room → {left : List ℕ} → left ≡ wrote room 0 answer → {n : ℕ} → n ≡ length answer
      → Lent number answer room left (record { number = 0; length = n })
  unfolding verdict wrote
  lent_written {number} z h w m =
      let e = eq-eqb number 0 z in
      let l = le-ltb (length room) (length answer) h in
      record { says = simp (e, l); long = simp (e, l) m; bytes = simp (e, l) (w ∙ ap (λ (i : ℕ). answer ++ drop i room) (zero-add (length answer))) }

-- another name for the same number and the same answer
pub lent_same : {n m : ℕ} {a b room left : List ℕ} {r : Reply} → Lent n a room left r → n ≡ m → a ≡ b → Lent m b room left r
lent_same w e q = rw⁻¹ (e, q) w

pub lent_reply : {n : ℕ} {a room left : List ℕ} {r s : Reply} → Lent n a room left r → s ≡ r → Lent n a room left s
lent_reply w e = rw e w
