-- Which text an input has, and what the window's reply says of it. Assumes nothing.
use Prim.Native.Nat.{ℕ, ◌+◌, ◌-◌, ◌≤◌, ◌<◌}
use native.Mathlib.Nat.{mod-lt}
use native.Mathlib.Omega.{arith}
use mathlib.Core.Path.{◌≡◌, refl, sym, ap, ap₂, ◌∙◌, subst}
use mathlib.Core.Bool.{Bool, true, false, cond}
use mathlib.Core.List.{List, ◌++◌}
use borrow.Author.Tests.{lt-ltb, le-ltb, ltb-false, ne_eqb, eqb-true, eqb-false}
use lib.Dec.{ltb, eqb}
use lib.IntN.{ℤ}
use lib.ListN.{length, take, drop, length-append, length-drop}
use lib.Seq.{take_all, take_at}
use mir.Syntax.{w64}
use mir.Val.{to_z, of_z}
use mir.ValLaws.{to_z-of_z}
use Rattle.wire.specs.Fields.{wrote}
use Rattle.wire.specs.Signs.{meant, turned, signed}
use Rattle.wire.proofs.Signs.{meant_fits}
use Rattle.records.specs.Limits.{base}
use Rattle.records.specs.Book.{refusal}
use Rattle.records.specs.Valid.{Bytes}
use Rattle.query.specs.Judging.{window_refusal}
use Rattle.lend.specs.Lending.{verdict, Lent}
use Rattle.lend.specs.declared.Reply.{Reply}
use Rattle.rows.specs.Rows.{framed, good_row, segments}
use Rattle.timeline.specs.Asking.{window_answer}
use Rattle.timeline_rows.proofs.Row.{row_good}
use Rattle.book_query.specs.Judging.{window_number}
use Rattle.listing.specs.Listing.{most, text_bytes, query_kind, query_length, query_size, book, start, end, room_number, head_line, row_text, listing_number, listing}
use Rattle.listing.specs.Private.{Puts, window_text}

-- ---- the text of an input

module _ (s : List ℕ) where
  pub too_long : most < length s → listing s ≡ head_line 1 0
  unfolding listing listing_number
  too_long h = simp (lt-ltb most (length s) h)

  module _ (h : length s ≤ most) where
    pub no_query : framed query_kind query_length s 0 ≡ false → listing s ≡ head_line 2 0
    unfolding listing listing_number
    no_query e = simp (le-ltb most (length s) h, e)

    pub is_query : framed query_kind query_length s 0 ≡ true → listing s ≡ window_text (book s) (start s) (end s)
    unfolding listing listing_number
    is_query e = simp (le-ltb most (length s) h, e)

-- ---- the text of a book and a window, by the reply

both_pass : (s : List ℕ) (m n : ℤ) → window_number s m n ≡ 0 → (refusal base s ≡ 0) × (window_refusal m n ≡ 0)
unfolding window_number
both_pass s m n e = go (eqb (refusal base s) 0) refl e
  where
    go : (t : Bool) → eqb (refusal base s) 0 ≡ t → cond t (window_refusal m n) (refusal base s) ≡ 0 → (refusal base s ≡ 0) × (window_refusal m n ≡ 0)
    go true i q = (eqb-true (refusal base s) 0 i, q)
    go false i q = absurd (eqb-false (refusal base s) 0 i q)

room_passes : (n : ℕ) (a : List ℕ) → room_number n a ≡ 0 → (n ≡ 0) × (length a ≤ most)
room_passes n a e = go (eqb n 0) (ltb most (length a)) refl refl e
  where
    go : (t u : Bool) → eqb n 0 ≡ t → ltb most (length a) ≡ u → cond t (cond u 16 0) n ≡ 0 → (n ≡ 0) × (length a ≤ most)
    go true true i j q = absurd (omega (arith, q))
    go true false i j q = (eqb-true n 0 i, ltb-false most (length a) j)
    go false u i j q = absurd (eqb-false n 0 i q)

-- the room is 65,536 bytes long
verdict_room : (n : ℕ) (a room : List ℕ) → length room ≡ most → verdict n a room ≡ room_number n a
unfolding verdict
verdict_room n a room l = rw l

-- what an answered window leaves
pub record Answered (s : List ℕ) (m n : ℤ) (left : List ℕ) (r : Reply) : Type 0 where
  pub short : r.length ≤ most
  pub inside : r.length ≤ length left
  pub long : length (take r.length left) ≡ r.length
  pub good : Bytes s → good_row (take r.length left) ≡ true
  pub text : window_text s m n ≡ row_text (segments (take r.length left))

module _ (s : List ℕ) (m n : ℤ) {room left : List ℕ} {r : Reply} (w : Lent (window_number s m n) (window_answer s m n) room left r)
    (l : length room ≡ most) where
  says : room_number (window_number s m n) (window_answer s m n) ≡ r.number
  says = sym (w.says ∙ verdict_room (window_number s m n) (window_answer s m n) room l)

  pub refused_text : (r.number ≡ 0 → ⊥) → window_text s m n ≡ head_line r.number 0
  refused_text h = simp (says, ne_eqb r.number 0 h)

  pub answered : r.number ≡ 0 → Answered s m n left r
  answered h =
      let a = window_answer s m n in
      let v : verdict (window_number s m n) a room ≡ 0 = sym w.says ∙ h in
      let long : r.length ≡ length a = simp (v) at w.long in
      let bytes : left ≡ a ++ drop (length a) room = simp (v) at w.bytes in
      let is : take r.length left ≡ a = rw bytes (take_at a (drop (length a) room) r.length (sym long)) in
      let z = says ∙ h in
      let pass = room_passes (window_number s m n) a z in
      let both = both_pass s m n pass.0 in
      record {
        short = omega (arith, pass.1, long);
        inside = omega (arith, ap length bytes, long, length-append a (drop (length a) room));
        long = ap length is ∙ sym long;
        good = λ b. ap good_row is ∙ row_good s m n b both.0 both.1;
        text = rw (is, z);
      }

-- ---- the text that is left

pub puts_text : {old new v w : List ℕ} {r : ℕ} → w ≡ v → Puts old 0 v new r → Puts old 0 w new r
puts_text {old} {new} {v} {w} {r} e p = subst (λ (x : List ℕ). Puts old 0 x new r) (sym e) p

puts_inside : {old new v : List ℕ} {r : ℕ} → Puts old 0 v new r → r ≤ length old
unfolding wrote
puts_inside {old} {new} {v} {r} p =
    let z : length new ≡ length (v ++ drop (0 + length v) old) = ap length p.same in
    omega (arith, p.behind, p.kept, z, length-append v (drop (0 + length v) old))

pub told : {old new v w : List ℕ} {r : ℕ} → w ≡ v → Puts old 0 v new r → length old ≡ text_bytes → Puts old 0 w new r × (r ≤ text_bytes)
told e p l = (puts_text e p, omega (arith, puts_inside p, l))

-- a window's edge, as it is read
pub edge : (p x : ℕ) (z : ℤ) → z ≡ meant w64 p → p ≡ turned w64 x → to_z w64 (of_z w64 z) ≡ signed w64 x
edge p x z e f =
    let is : z ≡ signed w64 x = e ∙ ap (meant w64) f in
    ap (λ (y : ℤ). to_z w64 (of_z w64 y)) is ∙ to_z-of_z w64 (signed w64 x) (meant_fits w64 (turned w64 x) (mod-lt _ (omega arith)))

-- what stands behind the first record, to the end
pub tail_book : (s : List ℕ) → take (length s - query_size) (drop query_size s) ≡ book s
tail_book s = take_all (length s - query_size) (drop query_size s) (omega (arith, length-drop query_size s))

pub same_window : (b c : List ℕ) (m m' n n' : ℤ) → c ≡ b → m' ≡ m → n' ≡ n → window_text b m n ≡ window_text c m' n'
same_window b c m m' n n' d e f = ap (λ (x : List ℕ). window_text x m n) (sym d) ∙ ap₂ (window_text c) (sym e) (sym f)
