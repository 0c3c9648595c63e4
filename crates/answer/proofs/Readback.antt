-- An answer's bytes: how many, and that they give the answer back. Assumes nothing.
use mathlib.Core.Path.{◌≡◌, refl, sym, ap, ◌∙◌}
use mathlib.Core.Bool.{cond}
use mathlib.Core.List.{List, [], ◌∷◌, ◌++◌, map, append-nil}
use Rattle.std.specs.Prelude.{Option, None, Some}
use Prim.Native.Nat.{ℕ, zero, suc, ◌+◌, ◌*◌, ◌^◌, ◌<◌}
use native.Mathlib.Omega.{arith}
use lib.Dec.{eqb}
use lib.IntN.{ℤ}
use lib.ListN.{length}
use mir.Syntax.{w64}
use mir.Val.{SFits, of_z, to_z}
use mir.ValLaws.{to_z-of_z, of_z_fits}
use Rattle.wire.specs.Fields.{Field, field}
use Rattle.zone.specs.Answers.{Values}
use Rattle.records.specs.Layout.{Place, number, kind}
use Rattle.records.specs.Records.{put, put_signed}
use Rattle.records.proofs.Laid.{span, Narrow, Says, laid_length, laid_says}
use Rattle.answer.specs.Forms.{Side, Cover, Phase, Event, Gap, Missing, Totals, Form, phase, unknown, event, point, mark, day, tally}
use Rattle.answer.specs.Forms.{start, end, phase_place, code_place, label_place, evidence_place, derived_place, from_place, to_place, whole_before, count_place}
use Rattle.answer.specs.Forms.{tag_behind, one_behind, two_behind, text_behind, present_behind, cover_start, cover_end}
use Rattle.answer.specs.Forms.{event_code, event_at, event_evidence, missing_at, mark_row, total_place}
use Rattle.answer.specs.Forms.{kind_of, length_of, uncertainty_fields, cover_fields, totals_fields, fields_of, all_fields, encode}
use Rattle.answer.specs.Forms.{cover_size, phase_kind, gap_kind, event_kind, missing_kind, mark_kind, day_kind, many_totals}
use Rattle.answer.specs.Fitting.{Sized, FitsValues, FitsCover, FitsEach, FitsTotals, Fitting}

-- ---- how many

cover_span : (p : Place) (c : Option Cover) → span (cover_fields p c) ≡ cover_size
cover_span p None = refl
cover_span p (Some c) = refl

totals_span : (xs : List ℕ) → span (map (put total_place) xs) ≡ 8 * length xs
totals_span [] = refl
totals_span (x ∷ xs) = omega (arith, totals_span xs)

all_span : (f : Form) → Sized f → span (all_fields f) ≡ 2 + length_of f
all_span (phase p) s = refl
all_span (unknown g) s = omega (arith, cover_span end g.coverage)
all_span (event e) s = refl
all_span (point m) s = omega (arith, cover_span missing_at m.coverage)
all_span (mark r) s = refl
all_span (day t) s = omega (arith, totals_span t.totals)
all_span (tally t) s = omega (arith, totals_span t.totals)

pub encode_length : (f : Form) → Sized f → length (encode f) ≡ 2 + length_of f
unfolding encode
encode_length f s = laid_length (all_fields f) ∙ all_span f s

-- ---- where the bytes stand, every field says its number

pub reads_back : (f : Form) → Narrow (all_fields f) → (before after : List ℕ) → Says (all_fields f) (before ++ (encode f ++ after)) (length before) 0
unfolding encode
reads_back f n before after = laid_says (all_fields f) n before after (length before) 0 (omega arith)

-- ---- the answer that stands at a place

abbrev integer : Place → List ℕ → ℕ → ℤ
integer p s at = to_z w64 (number p s at)

abbrev values_at : Place → List ℕ → ℕ → Values
values_at p s at =
    record {
      tag = number (tag_behind p) s at;
      one = integer (one_behind p) s at;
      two = integer (two_behind p) s at;
      text = number (text_behind p) s at;
    }

abbrev side_at : Place → List ℕ → ℕ → Side
side_at p s at = record { at = integer p s at; uncertainty = values_at p s at }

abbrev cover_at : Place → List ℕ → ℕ → Option Cover
cover_at p s at =
    cond (eqb (number (present_behind p) s at) 1) (Some (record { start = integer (cover_start p) s at; end = integer (cover_end p) s at })) None

-- n totals from `at` on
abbrev totals_at : List ℕ → ℕ → ℕ → List ℕ
totals_at s at zero = []
totals_at s at (suc n) = field 8 s at ∷ totals_at s (at + 8) n

abbrev phase_at : List ℕ → ℕ → Phase
phase_at s at =
    record {
      start = integer start s at;
      end = integer end s at;
      phase = number phase_place s at;
      code = number code_place s at;
      label = number label_place s at;
      evidence = number evidence_place s at;
      derived = number derived_place s at;
      from = side_at from_place s at;
      to = side_at to_place s at;
      whole = values_at whole_before s at;
      events = number count_place s at;
    }

abbrev gap_at : List ℕ → ℕ → Gap
gap_at s at = record { start = integer start s at; end = integer end s at; coverage = cover_at end s at }

abbrev happened : List ℕ → ℕ → Event
happened s at =
    record { code = number event_code s at; at = integer event_at s at; uncertainty = values_at event_at s at; evidence = number event_evidence s at }

abbrev point_at : List ℕ → ℕ → Missing
point_at s at = record { at = integer missing_at s at; coverage = cover_at missing_at s at }

abbrev sums_at : List ℕ → ℕ → Totals
sums_at s at = record { start = integer start s at; end = integer end s at; totals = totals_at s (at + total_place.from) many_totals }

-- by the kind that stands there
abbrev pub form_at : List ℕ → ℕ → Form
form_at s at =
    let k = number kind s at in
    cond (eqb k phase_kind) (phase (phase_at s at))
    (cond (eqb k gap_kind) (unknown (gap_at s at))
    (cond (eqb k event_kind) (event (happened s at))
    (cond (eqb k missing_kind) (point (point_at s at))
    (cond (eqb k mark_kind) (mark (number mark_row s at))
    (cond (eqb k day_kind) (day (sums_at s at)) (tally (sums_at s at)))))))

-- ---- the fields from a boundary on

abbrev count_fields : Phase → List Field
count_fields p = put count_place p.events ∷ []

abbrev whole_fields : Phase → List Field
whole_fields p = uncertainty_fields whole_before p.whole (count_fields p)

abbrev to_fields : Phase → List Field
to_fields p = put_signed w64 to_place p.to.at ∷ uncertainty_fields to_place p.to.uncertainty (whole_fields p)

abbrev evidence_fields : Event → List Field
evidence_fields e = put event_evidence e.evidence ∷ []

-- ---- what fits is narrow

bits_narrow : {z : ℤ} → SFits w64 z → of_z w64 z < 256 ^ 8
bits_narrow {z} f = (of_z_fits w64 z f).fits

values_narrow : (p : Place) (u : Values) (rest : List Field) → FitsValues u → Narrow rest → Narrow (uncertainty_fields p u rest)
values_narrow p u rest f n = (f.tag, (bits_narrow f.one, (bits_narrow f.two, (f.text, n))))

cover_narrow : (p : Place) (c : Option Cover) → FitsCover c → Narrow (cover_fields p c)
cover_narrow p None f = (omega arith, (omega arith, (omega arith, tt)))
cover_narrow p (Some c) f = (omega arith, (bits_narrow f.0, (bits_narrow f.1, tt)))

totals_narrow : (xs : List ℕ) → FitsEach xs → Narrow (map (put total_place) xs)
totals_narrow [] f = tt
totals_narrow (x ∷ xs) f = (f.0, totals_narrow xs f.1)

fields_narrow : (f : Form) → Fitting f → Narrow (fields_of f)
fields_narrow (phase p) f =
    let whole = values_narrow whole_before p.whole (count_fields p) f.whole (f.events, tt) in
    let to = values_narrow to_place p.to.uncertainty (whole_fields p) f.to.uncertainty whole in
    let from = values_narrow from_place p.from.uncertainty (to_fields p) f.from.uncertainty (bits_narrow f.to.at, to) in
    (bits_narrow f.start, (bits_narrow f.end, (f.phase, (f.code, (f.label, (f.evidence, (f.derived, (bits_narrow f.from.at, from))))))))
fields_narrow (unknown g) f = (bits_narrow f.start, (bits_narrow f.end, cover_narrow end g.coverage f.coverage))
fields_narrow (event e) f = (f.code, (bits_narrow f.at, values_narrow event_at e.uncertainty (evidence_fields e) f.uncertainty (f.evidence, tt)))
fields_narrow (point m) f = (bits_narrow f.at, cover_narrow missing_at m.coverage f.coverage)
fields_narrow (mark r) f = (f, tt)
fields_narrow (day t) f = (bits_narrow f.start, (bits_narrow f.end, totals_narrow t.totals f.totals))
fields_narrow (tally t) f = (bits_narrow f.start, (bits_narrow f.end, totals_narrow t.totals f.totals))

head_narrow : (f : Form) → (length_of f < 256 ^ 2) × (kind_of f < 256 ^ 2)
head_narrow (phase p) = (omega arith, omega arith)
head_narrow (unknown g) = (omega arith, omega arith)
head_narrow (event e) = (omega arith, omega arith)
head_narrow (point m) = (omega arith, omega arith)
head_narrow (mark r) = (omega arith, omega arith)
head_narrow (day t) = (omega arith, omega arith)
head_narrow (tally t) = (omega arith, omega arith)

pub fitting_narrow : (f : Form) → Fitting f → Narrow (all_fields f)
fitting_narrow f g = let h = head_narrow f in (h.0, (h.1, fields_narrow f g))

pub fitting_sized : (f : Form) → Fitting f → Sized f
fitting_sized (phase p) f = tt
fitting_sized (unknown g) f = tt
fitting_sized (event e) f = tt
fitting_sized (point m) f = tt
fitting_sized (mark r) f = tt
fitting_sized (day t) f = f.ten
fitting_sized (tally t) f = f.ten

-- ---- what stands at a place is what is read there

module _ (s : List ℕ) (at : ℕ) where
  back : (p : Place) (z : ℤ) → SFits w64 z → number p s at ≡ of_z w64 z → integer p s at ≡ z
  back p z f e = ap (to_z w64) e ∙ to_z-of_z w64 z f

  values_read : (p : Place) (u : Values) (rest : List Field) → FitsValues u → Says (uncertainty_fields p u rest) s at (tag_behind p).from
      → (values_at p s at ≡ u) × Says rest s at ((text_behind p).from + 2)
  values_read p u rest f (t, (a, (b, (x, n)))) =
      let one = back (one_behind p) u.one f.one a in
      let two = back (two_behind p) u.two f.two b in
      (rw (t, one, two, x), n)

  cover_read : (p : Place) (c : Option Cover) → FitsCover c → Says (cover_fields p c) s at (present_behind p).from → cover_at p s at ≡ c
  cover_read p None f (k, n) = rw k
  cover_read p (Some c) f (k, (a, (b, n))) =
      let start = back (cover_start p) c.start f.0 a in
      let end = back (cover_end p) c.end f.1 b in
      rw k (rw (start, end))

  totals_read : (xs : List ℕ) (from : ℕ) → Says (map (put total_place) xs) s at from → totals_at s (at + from) (length xs) ≡ xs
  totals_read [] from p = refl
  totals_read (x ∷ xs) from p =
      let z : at + from + 8 ≡ at + (from + 8) = omega arith in
      rw (p.0, z, totals_read xs (from + 8) p.1)

  sums_read : (t : Totals) → FitsTotals t → Says (totals_fields t) s at start.from → sums_at s at ≡ t
  sums_read t f (a, (b, n)) =
      let from = back start t.start f.start a in
      let to = back end t.end f.end b in
      let each = ap (totals_at s (at + total_place.from)) (sym f.ten) ∙ totals_read t.totals total_place.from n in
      rw (from, to, each)

  pub form_read : (f : Form) → Fitting f → Says (all_fields f) s at 0 → form_at s at ≡ f
  form_read (phase p) f (_, (k, (a, (b, (c, (d, (l, (e, (g, (i, u)))))))))) =
      let from = back start p.start f.start a in
      let to = back end p.end f.end b in
      let first = back from_place p.from.at f.from.at i in
      let v = values_read from_place p.from.uncertainty (to_fields p) f.from.uncertainty u in
      let last = back to_place p.to.at f.to.at v.1.0 in
      let w = values_read to_place p.to.uncertainty (whole_fields p) f.to.uncertainty v.1.1 in
      let x = values_read whole_before p.whole (count_fields p) f.whole w.1 in
      rw k (rw (from, to, c, d, l, e, g, first, v.0, last, w.0, x.0, x.1.0))
  form_read (unknown g) f (_, (k, (a, (b, c)))) =
      let from = back start g.start f.start a in
      let to = back end g.end f.end b in
      rw k (rw (from, to, cover_read end g.coverage f.coverage c))
  form_read (event e) f (_, (k, (c, (a, u)))) =
      let instant = back event_at e.at f.at a in
      let v = values_read event_at e.uncertainty (evidence_fields e) f.uncertainty u in
      rw k (rw (c, instant, v.0, v.1.0))
  form_read (point m) f (_, (k, (a, c))) =
      let instant = back missing_at m.at f.at a in
      rw k (rw (instant, cover_read missing_at m.coverage f.coverage c))
  form_read (mark r) f (_, (k, (a, n))) = rw k (rw a)
  form_read (day t) f (_, (k, n)) = rw k (ap day (sums_read t f n))
  form_read (tally t) f (_, (k, n)) = rw k (ap tally (sums_read t f n))

-- an answer's bytes give it back
pub decoded : (f : Form) → Fitting f → form_at (encode f) 0 ≡ f
decoded f g = form_read (encode f) 0 f g (rw append-nil at (reads_back f (fitting_narrow f g) [] []))

-- no two answers have the same bytes
pub encode_once : (f g : Form) → Fitting f → Fitting g → encode f ≡ encode g → f ≡ g
encode_once f g x y e = sym (decoded f x) ∙ ap (λ (s : List ℕ). form_at s 0) e ∙ decoded g y
