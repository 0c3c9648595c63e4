-- One writer after another, from the last backwards. Assumes nothing.
use mathlib.Core.Path.{◌≡◌, refl, sym, ap, ◌∙◌}
use mathlib.Core.Bool.{true}
use mathlib.Core.List.{List, [], ◌∷◌, ◌++◌, append_assoc, append-nil}
use Rattle.std.specs.Prelude.{Option, None, Some}
use Prim.Native.Nat.{ℕ, zero, suc, ◌+◌, ◌*◌, ◌≤◌, ◌<◌}
use native.Mathlib.Omega.{arith}
use borrow.Author.Tests.{ltb-true}
use lib.Dec.{ltb}
use lib.IntN.{ℤ}
use lib.ListN.{length, get_or, take, drop, length-append, length-take, length-drop}
use mir.Syntax.{w64}
use mir.Val.{of_z}
use Rattle.wire.specs.Fields.{Inside, Put, bytes, wrote, Field, laid}
use Rattle.wire.proofs.Writing.{also, wrote_nothing}
use Rattle.zone.specs.Answers.{Values}
use Rattle.records.specs.Layout.{Place, kind}
use Rattle.answer.specs.Forms.{Side, Cover, Phase, Event, Missing, Gap, Totals, phase, unknown, event, point, day, tally, end, missing_at, cover_fields, encode, phase_kind, phase_length, gap_kind, gap_length, event_kind, event_length, missing_kind, missing_length, day_kind, row_length, tally_kind}
use Rattle.answer.specs.Meaning.{totals_bytes}

-- ---- one writer after another

-- a writer that wrote something and kept the length wrote inside the room
pub inside : {a b v : List ℕ} {p q n : ℕ} → 0 < n → Put a p v n b q → Inside p n a
unfolding wrote
inside {a} {b} {v} {p} {q} {n} h x =
    let whole = length-append (take p a ++ v) (drop (p + length v) a) in
    let first = length-append (take p a) v in
    let before = length-take p a in
    let behind = length-drop (p + length v) a in
    let same = ap length x.same in
    omega (arith, x.many, x.kept)

-- so two in a row need no more than what they left
pub after : {a b c v w : List ℕ} {p q r n m : ℕ} → Put a p v n b q → Put b q w m c r → ltb 0 m ≡ true → Put a p (v ++ w) (n + m) c r
after {n = n} {m = m} x y h = let i = inside (ltb-true 0 m h) y in also (n + m) x y refl (omega (arith, x.behind, x.kept))

-- ---- a record's bytes, as the writers write them

abbrev pub signed8 : ℤ → List ℕ
signed8 z = bytes 8 (of_z w64 z)

abbrev pub head : ℕ → ℕ → List ℕ
head length kind = bytes 2 length ++ bytes 2 kind

abbrev pub doubt : Values → List ℕ
doubt u = bytes 1 u.tag ++ (signed8 u.one ++ (signed8 u.two ++ bytes 2 u.text))

abbrev pub side : Side → List ℕ
side s = signed8 s.at ++ doubt s.uncertainty

pub phase_bytes : (p : Phase)
    → encode (phase p)
    ≡ head phase_length phase_kind
    ++ ((signed8 p.start ++ signed8 p.end)
    ++ ((bytes 1 p.phase ++ (bytes 1 p.code ++ (bytes 2 p.label ++ (bytes 2 p.evidence ++ bytes 2 p.derived))))
    ++ (side p.from ++ (side p.to ++ (doubt p.whole ++ bytes 4 p.events)))))
unfolding encode laid
phase_bytes p = simp (append_assoc, append-nil)

pub event_bytes : (e : Event)
    → encode (event e)
    ≡ head event_length event_kind ++ (bytes 2 e.code ++ ((signed8 e.at ++ doubt e.uncertainty) ++ bytes 2 e.evidence))
unfolding encode laid
event_bytes e = simp (append_assoc, append-nil)

-- coverage has the same bytes wherever it stands
cover_place : (p q : Place) (c : Option Cover) → cover_fields p c ≡ cover_fields q c
cover_place p q None = refl
cover_place p q (Some c) = refl

pub gap_bytes : (g : Gap) → encode (unknown g) ≡ head gap_length gap_kind ++ ((signed8 g.start ++ signed8 g.end) ++ laid (cover_fields kind g.coverage))
unfolding encode laid
gap_bytes g =
    simp append_assoc
    (ap (λ (c : List Field). bytes 2 gap_length ++ (bytes 2 gap_kind ++ (signed8 g.start ++ (signed8 g.end ++ laid c)))) (cover_place end kind g.coverage))

pub missing_bytes : (m : Missing) → encode (point m) ≡ head missing_length missing_kind ++ (signed8 m.at ++ laid (cover_fields kind m.coverage))
unfolding encode laid
missing_bytes m =
    simp append_assoc
    (ap (λ (c : List Field). bytes 2 missing_length ++ (bytes 2 missing_kind ++ (signed8 m.at ++ laid c))) (cover_place missing_at kind m.coverage))

pub nothing_bytes : bytes 1 0 ++ (bytes 8 0 ++ bytes 8 0) ≡ laid (cover_fields kind None)
unfolding laid
nothing_bytes = simp append-nil

pub between_bytes : (s e : ℤ) → bytes 1 1 ++ (signed8 s ++ signed8 e) ≡ laid (cover_fields kind (Some (record { start = s; end = e })))
unfolding laid
between_bytes s e = simp append-nil

-- ---- totals

pub day_bytes : (t : Totals) → encode (day t) ≡ head row_length day_kind ++ ((signed8 t.start ++ signed8 t.end) ++ totals_bytes t.totals)
unfolding encode laid
day_bytes t = simp append_assoc

pub tally_bytes : (t : Totals) → encode (tally t) ≡ head row_length tally_kind ++ ((signed8 t.start ++ signed8 t.end) ++ totals_bytes t.totals)
unfolding encode laid
tally_bytes t = simp append_assoc

-- one total more
one_more : (i : ℕ) (ts : List ℕ) → i < length ts → totals_bytes (take i ts) ++ bytes 8 (get_or ts i 0) ≡ totals_bytes (take (suc i) ts)
unfolding laid
one_more i [] h = absurd (omega arith)
one_more zero (t ∷ ts) h = sym (append-nil (bytes 8 t))
one_more (suc i) (t ∷ ts) h = append_assoc (bytes 8 t) (totals_bytes (take i ts)) (bytes 8 (get_or ts i 0)) ∙ ap (λ (l : List ℕ). bytes 8 t ++ l) (one_more i ts (omega arith))

pub nothing_yet : (room : List ℕ) (at : ℕ) (ts : List ℕ) → Put room at (totals_bytes (take 0 ts)) (8 * 0) room at
unfolding laid
nothing_yet room at ts = record { same = sym (wrote_nothing room at); behind = omega arith; many = refl; kept = refl }

pub next_put : (ts : List ℕ) (i : ℕ) {room now after : List ℕ} {at place next : ℕ} → Put room at (totals_bytes (take i ts)) (8 * i) now place
    → at + 8 * length ts ≤ length room → i < length ts → Put now place (bytes 8 (get_or ts i 0)) 8 after next
    → Put room at (totals_bytes (take (i + 1) ts)) (8 * (i + 1)) after next
next_put ts i w h l y =
    let e : i + 1 ≡ suc i = omega arith in
    rw (e, ← (one_more i ts l)) (also (8 * suc i) w y (omega arith) (omega arith))
