-- Bytes written behind others: a record and what follows it, and a record that is amended. Assumes nothing.
use mathlib.Core.Path.{◌≡◌, refl, sym, ap, ◌∙◌}
use mathlib.Core.Bool.{true, false}
use mathlib.Core.List.{List, ◌++◌, append_assoc}
use Prim.Native.Nat.{ℕ, ◌+◌}
use native.Mathlib.Omega.{arith}
use lib.ListN.{length, length-append}
use Rattle.wire.specs.Fields.{wrote, Inside, Put}
use Rattle.wire.proofs.Writing.{wrote_in_front, wrote_over, wrote_length, also}
use Rattle.answer.specs.Amending.{front, Amends}
use Rattle.answer.specs.Forms.{phase, encode, phase_size, to_place}
use Rattle.answer.specs.Meaning.{phase_of}
use Rattle.std.specs.Prelude.{Option, None, Some, is_some}
use Rattle.answer.proofs.Amended.{begun_amends, begun_put}
use Rattle.walk_records.specs.Private.{Recorded}
use Rattle.walk_records.specs.declared.put.Written.{Written}

-- a record behind what was written: what follows it is written first
pub record_behind : {room vs now : List ℕ} {at k place : ℕ} → Put room at vs k now place
    → (h : List ℕ) {ws now1 now2 : List ℕ} {trail n end : ℕ} → Put now trail ws n now1 end
    → trail ≡ place + length h → Inside trail n now → now2 ≡ wrote now1 place h → Put room at (vs ++ (h ++ ws)) (k + (length h + n)) now2 end
record_behind {now = now} {k = k} {place = place} w h {ws} {now1} {now2} {trail} {n} {end} y e i z =
    let l = length-append h ws in
    let m = y.many in
    let same : now2 ≡ wrote now place (h ++ ws) = z ∙ ap (λ (x : List ℕ). wrote x place h) y.same ∙ wrote_in_front now place trail h ws e (omega arith) in
    let both : Put now place (h ++ ws) (length h + n) now2 end = record {
      same = same;
      behind = omega (arith, y.behind);
      many = omega arith;
      kept = ap length same ∙ wrote_length now place (h ++ ws) (omega arith);
    } in
    also (k + (length h + n)) w both refl (omega (arith, w.behind, w.kept))

-- more behind a record, and the record h amended, which stands behind `done`
module _ {room now : List ℕ} {at k place : ℕ} (done h behind : List ℕ) (w : Put room at (done ++ (h ++ behind)) k now place) {ws now1 : List ℕ} {n end : ℕ} (y : Put now place ws n now1 end)
    (i : Inside place n now) {stand : ℕ} (s : stand ≡ at + length done) where
  more : Put room at (done ++ (h ++ (behind ++ ws))) (k + n) now1 end
  more = simp append_assoc at (also (k + n) w y refl (omega (arith, w.behind, w.kept)))

  pub amended : (g : List ℕ) {now2 : List ℕ} → length g ≡ length h → now2 ≡ wrote now1 stand g
      → Put room at (done ++ (g ++ (behind ++ ws))) (k + n) now2 end
  amended g {now2} e z =
      let fits : Inside at (length (done ++ (h ++ (behind ++ ws)))) room = omega (arith, more.many, w.behind, w.kept) in
      let same = z ∙ ap (λ (x : List ℕ). wrote x stand g) more.same ∙ wrote_over room at stand done h (behind ++ ws) g s e fits in
      let many : length (done ++ (g ++ (behind ++ ws))) ≡ k + n = simp length-append (omega (arith, simp length-append at more.many)) in
      record { same = same; behind = more.behind; many = many; kept = ap length same ∙ wrote_length room at (done ++ (g ++ (behind ++ ws))) (omega (arith, more.many, fits)) }

  -- until then it stands there
  pub stood : now1 ≡ wrote now1 stand h
  stood = more.same ∙ sym (amended h refl refl).same

-- ---- a record's front

-- it stands in t, and the whole that is written over it is written over s
pub record Fronted (s t : List ℕ) (r : Written) : Type 0 where
  pub ready : Amends t r.stand r.head
  pub whole : {u : List ℕ} {p : ℕ} → Put t r.stand (encode (phase (phase_of r.head))) phase_size u p
      → Put s r.stand (encode (phase (phase_of r.head))) phase_size u p

-- begun where the record joins none
pub begun : {s t : List ℕ} (joined : Option Written) (r : Written) {p : ℕ} → is_some joined ≡ false → Recorded s joined r
    → Put s r.stand (front (phase_of r.head)) to_place.from t p → Fronted s t r
begun None r e i p = record { ready = begun_amends r.head p i; whole = λ w. begun_put r.head p w i }
begun (Some o) r e i p = absurd (cc)

-- there since the span before
pub stays : {s t : List ℕ} (joined : Option Written) (r : Written) → is_some joined ≡ true → Recorded s joined r → t ≡ s → Fronted s t r
stays None r e a i = absurd (cc)
stays (Some o) r e a i = rw i (record { ready = a; whole = λ w. w })
