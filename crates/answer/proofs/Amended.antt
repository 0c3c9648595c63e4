-- A phase written in two parts, and amended where it stands: its end, and from its second boundary on. Assumes nothing.
use mathlib.Core.Path.{◌≡◌, refl, sym, ap, ◌∙◌}
use mathlib.Core.List.{List, [], ◌++◌, append_assoc}
use Prim.Native.Nat.{ℕ, ◌+◌, ◌-◌}
use native.Mathlib.Omega.{arith}
use lib.ListN.{length, length-append}
use lib.Seq.{take_at}
use Rattle.wire.specs.Fields.{Inside, Put, bytes, wrote}
use Rattle.wire.proofs.Writing.{wrote_wrote, wrote_over, wrote_again}
use Rattle.answer.specs.Forms as Forms
use Rattle.answer.specs.Forms.{phase, encode, phase_kind, phase_length, phase_size, to_place}
use Rattle.answer.specs.Meaning.{phase_of}
use Rattle.answer.specs.Amending.{front, Amends}
use Rattle.answer.specs.declared.Phase.{Phase}
use Rattle.answer.proofs.Chain.{signed8, head, doubt, side, phase_bytes}

-- ---- a phase's bytes: before its end, the end, from there to its second boundary, and from that on

abbrev first : Forms.Phase → List ℕ
first p = head phase_length phase_kind ++ signed8 p.start

abbrev middle : Forms.Phase → List ℕ
middle p = (bytes 1 p.phase ++ (bytes 1 p.code ++ (bytes 2 p.label ++ (bytes 2 p.evidence ++ bytes 2 p.derived)))) ++ side p.from

abbrev pub back : Forms.Phase → List ℕ
back p = side p.to ++ (doubt p.whole ++ bytes 4 p.events)

phase_parts : (p : Forms.Phase) → encode (phase p) ≡ (first p ++ (signed8 p.end ++ middle p)) ++ back p
phase_parts p = phase_bytes p ∙ simp append_assoc

front_parts : (p : Forms.Phase) → front p ≡ first p ++ (signed8 p.end ++ middle p)
unfolding bytes
front_parts p = rw (phase_parts p) (take_at (first p ++ (signed8 p.end ++ middle p)) (back p) to_place.from refl)

-- ---- its front stands

-- as it is written
pub front_bytes : (p : Forms.Phase) → front p ≡ head phase_length phase_kind ++ ((signed8 p.start ++ signed8 p.end) ++ middle p)
front_bytes p = front_parts p ∙ simp append_assoc

-- where the whole stands, its front does
pub front_stands : (p : Forms.Phase) (s : List ℕ) (at : ℕ) → s ≡ wrote s at (encode (phase p)) → Inside at phase_size s → s ≡ wrote s at (front p)
unfolding bytes
front_stands p s at e i =
    let x = front p in
    let whole : s ≡ wrote s at (x ++ back p) = e ∙ ap (wrote s at) (phase_parts p ∙ ap (λ (l : List ℕ). l ++ back p) (sym (front_parts p))) in
    let long : length (x ++ back p) ≡ phase_size = ap (λ (l : List ℕ). length (l ++ back p)) (front_parts p) in
    whole ∙ sym (ap (λ (l : List ℕ). wrote l at x) whole ∙ wrote_over s at at [] x (back p) x (omega arith) refl (omega arith))

-- where it was just written
pub begun_amends : (p : Phase) {s t : List ℕ} {at r : ℕ} → Put s at (front (phase_of p)) to_place.from t r → Inside at phase_size s → Amends t at p
begun_amends p {s} {t} {at} w i =
    let x = front (phase_of p) in
    record {
      old = p;
      inside = omega (arith, w.kept);
      stands = sym (ap (λ (l : List ℕ). wrote l at x) w.same ∙ wrote_again s at x x (omega arith) (omega (arith, w.many)) ∙ sym w.same);
      start = refl;
      phase = refl;
      code = refl;
      label = refl;
      evidence = refl;
      derived = refl;
      from = refl;
    }

-- ---- the rest is written

over_and_behind : (at : ℕ) (x y z : List ℕ) {s t u v r : List ℕ} {n m i j k l : ℕ} → s ≡ wrote s at (x ++ (y ++ z))
    → Inside at (length (x ++ (y ++ z)) + l) s
    → Put s n v k t i → n ≡ at + length x → k ≡ length y → Put t m r l u j → m ≡ at + length (x ++ (y ++ z)) → u ≡ wrote s at ((x ++ (v ++ z)) ++ r)
over_and_behind at x y z {s} {t} {u} {v} {r} {n} {m} stands fits a b c d e =
    let same = a.many ∙ c in
    let over : t ≡ wrote s at (x ++ (v ++ z)) = a.same ∙ ap (λ (l : List ℕ). wrote l n v) stands ∙ wrote_over s at n x y z v b same (omega arith) in
    let long : length (x ++ (v ++ z)) ≡ length (x ++ (y ++ z)) = simp length-append (omega arith) in
    d.same ∙ ap (λ (l : List ℕ). wrote l m r) over ∙ wrote_wrote s at m (x ++ (v ++ z)) r (omega arith) (omega (arith, d.many))

pub amended : (p : Phase) {s t u : List ℕ} {at q r : ℕ} → Amends s at p → Put s (at + (Forms.end).from) (signed8 (phase_of p).end) (Forms.end).width t q
    → Put t (at + to_place.from) (back (phase_of p)) (phase_size - to_place.from) u r
    → Put s at (encode (phase (phase_of p))) phase_size u r
unfolding bytes
amended p {s} {t} {u} {at} a x y =
    let old = phase_of a.old in
    let stands = a.stands ∙ ap (wrote s at) (front_parts old) in
    let same = over_and_behind at (first old) (signed8 old.end) (middle old) stands a.inside x refl refl y refl in
    record {
      same = rw (phase_parts (phase_of p), ← a.start, ← a.phase, ← a.code, ← a.label, ← a.evidence, ← a.derived, ← a.from) same;
      behind = omega (arith, y.behind);
      many = ap length (phase_parts (phase_of p));
      kept = y.kept ∙ x.kept;
    }

-- the front, and then the whole
pub begun_put : (p : Phase) {s t u : List ℕ} {at q r : ℕ} → Put s at (front (phase_of p)) to_place.from t q → Put t at (encode (phase (phase_of p))) phase_size u r
    → Inside at phase_size s
    → Put s at (encode (phase (phase_of p))) phase_size u r
begun_put p {s} {at = at} a b i =
    let x = encode (phase (phase_of p)) in
    record {
      same = b.same ∙ ap (λ (l : List ℕ). wrote l at x) a.same ∙ wrote_again s at (front (phase_of p)) x (omega (arith, a.many, b.many)) (omega (arith, b.many));
      behind = b.behind;
      many = b.many;
      kept = b.kept ∙ a.kept;
    }
