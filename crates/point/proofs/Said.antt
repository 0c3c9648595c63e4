-- The bytes of a point answer say what the point is. Assumes nothing.
use mathlib.Core.Path.{◌≡◌, refl, sym, ap, ap₂, subst, ◌∙◌}
use mathlib.Core.List.{List, [], ◌∷◌, ◌++◌, append_assoc, append-nil}
use Rattle.std.specs.Prelude.{Option, None, Some}
use Prim.Native.Nat.{ℕ, ◌+◌, ◌^◌, ◌≤◌, ◌<◌}
use native.Mathlib.Omega.{arith}
use lib.IntN.{ℤ}
use mir.Syntax.{w64}
use Rattle.wire.specs.Fields.{field, bytes, Field, laid}
use Rattle.wire.proofs.Reading.{field_below}
use Rattle.records.specs.Layout.{number, kind, size, rule_evidence}
use Rattle.records.specs.Limits.{base}
use Rattle.records.specs.Records.{Coverage, Rule, put, put_signed}
use Rattle.records.specs.Book.{refusal, records, last_phase}
use Rattle.records.specs.Valid.{Bytes}
use Rattle.records.proofs.Laid.{span, laid_length, laid_says}
use Rattle.venue.specs.Opening.{coverage_of}
use Rattle.spans.specs.Spans.{phase}
use Rattle.day.specs.Days.{Held, values_of, point_of}
use Rattle.day.proofs.Theorems.{point_whole}
use Rattle.day.proofs.Listed.{governing_listed, source_good, span_under}
use Rattle.answer.specs.Forms as Forms
use Rattle.answer.specs.Forms.{Missing, fields_of, phase_place, evidence_place, encode, encode_all, phase_kind, phase_length, missing_kind, missing_length}
use Rattle.zone.specs.Units.{instant_of}
use Rattle.point.specs.Asking.{by_point, by_coverage, point_answer}
use Rattle.point.specs.Said.{point_mark, point_said}

-- ---- one field of several, whatever the others say

laid_append : (fs gs : List Field) → laid (fs ++ gs) ≡ laid fs ++ laid gs
unfolding laid
laid_append [] gs = refl
laid_append (f ∷ fs) gs =
    let v = bytes f.width f.value in
    ap (λ (l : List ℕ). v ++ l) (laid_append fs gs) ∙ sym (append_assoc v (laid fs) (laid gs))

one_field : (fs : List Field) (f : Field) (gs : List Field) (after : List ℕ) → f.value < 256 ^ f.width
    → field f.width (laid (fs ++ (f ∷ gs)) ++ after) (span fs) ≡ f.value
unfolding laid
one_field fs f gs after h =
    let v = bytes f.width f.value in
    let apart : laid (fs ++ (f ∷ gs)) ++ after ≡ laid fs ++ ((v ++ []) ++ (laid gs ++ after)) =
    ap (λ (l : List ℕ). l ++ after) (laid_append fs (f ∷ gs)) ∙ append_assoc (laid fs) (v ++ laid gs) after
    ∙ ap (λ (l : List ℕ). laid fs ++ l) (append_assoc v (laid gs) after ∙ ap (λ (l : List ℕ). l ++ (laid gs ++ after)) (sym (append-nil v))) in
    let here : span fs ≡ 0 + span fs = omega arith in
    ap₂ (field f.width) apart here ∙ (laid_says (f ∷ []) (h, tt) (laid fs) (laid gs ++ after) 0 (span fs) (omega (arith, laid_length fs))).0

-- ---- the first record of an answer

module _ (p : Forms.Phase) (after : List ℕ) where
  abbrev known : List ℕ
  known = encode (Forms.phase p) ++ after

  abbrev before : List Field
  before = put size phase_length ∷ put kind phase_kind ∷ put_signed w64 Forms.start p.start ∷ put_signed w64 Forms.end p.end ∷ []

  known_kind : number kind known 0 ≡ phase_kind
  unfolding encode
  known_kind = one_field (put size phase_length ∷ []) (put kind phase_kind) (fields_of (Forms.phase p)) after (omega arith)

  module _ (a : p.phase < 2 ^ 8) (b : p.evidence < 2 ^ 16) where
    known_phase : number phase_place known 0 ≡ p.phase
    unfolding encode
    known_phase = one_field before (put phase_place p.phase) _ after a

    known_evidence : number evidence_place known 0 ≡ p.evidence
    unfolding encode
    known_evidence =
        let between = put phase_place p.phase ∷ put Forms.code_place p.code ∷ put Forms.label_place p.label ∷ [] in
        one_field (before ++ between) (put evidence_place p.evidence) _ after b

    pub known_said : point_said known ≡ Some (phase p.phase p.evidence)
    unfolding point_said
    known_said =
        let k = known_kind in
        rw k (ap₂ (λ (x y : ℕ). Some (phase x y)) known_phase known_evidence)

missing_said : (m : Missing) (after : List ℕ) → point_said (encode (Forms.point m) ++ after) ≡ None
unfolding point_said encode
missing_said m after =
    let k : number kind (encode (Forms.point m) ++ after) 0 ≡ missing_kind =
    one_field (put size missing_length ∷ []) (put kind missing_kind) (fields_of (Forms.point m)) after (omega arith) in
    rw k refl

-- ---- a known point of an accepted book fits its fields

pub held_narrow : (s : List ℕ) → Bytes s → refusal base s ≡ 0 → (c : Coverage) (t : ℕ) (h : Held)
    → point_of (values_of (records s) c) t ≡ Some h
    → (h.phase < 2 ^ 8) × (h.rule.evidence < 2 ^ 16)
held_narrow s b e c t h q =
    let v = values_of (records s) c in
    let w = point_whole v t h q in
    let u = span_under v.zone v.governing w.span w.date (λ r g. (source_good s r (governing_listed s e w.date r g)).each) w.one in
    let k = governing_listed s e w.date u.0 u.1 in
    let small = field_below 2 s (k.place + rule_evidence.from) b in
    let phased = subst (λ (x : Held). x.phase ≤ last_phase) w.is u.2.phase in
    let ruled : h.rule ≡ u.0 = ap (λ (x : Held). x.rule) (sym w.is) ∙ u.2.rule in
    (omega arith, subst (λ (r : Rule). r.evidence < 2 ^ 16) (k.is ∙ sym ruled) (omega arith))

-- ---- for every accepted book and every instant

pub point_said_law : (s : List ℕ) → Bytes s → refusal base s ≡ 0 → (c : Coverage) → coverage_of (records s) ≡ Some c → (n : ℤ)
    → point_said (point_answer s n) ≡ point_mark (point_of (values_of (records s) c) (instant_of n))
unfolding point_answer encode_all
point_said_law s b e c q n =
    ap (λ (o : Option Coverage). point_said (encode_all (by_coverage (records s) n o))) q ∙ go (point_of (values_of (records s) c) (instant_of n)) refl
  where
    go : (o : Option Held) → point_of (values_of (records s) c) (instant_of n) ≡ o
        → point_said (encode_all (by_point (values_of (records s) c) c n o)) ≡ point_mark o
    go None i = missing_said _ []
    go (Some h) i = let f = held_narrow s b e c (instant_of n) h i in known_said _ _ f.0 f.1
