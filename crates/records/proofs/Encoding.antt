-- One record: what stands at a place with the right length is the encoding of a record, and an encoding says its record. Assumes nothing.
use mathlib.Core.Path.{◌≡◌, refl, sym, ap, ap₂, ◌∙◌}
use mathlib.Core.Bool.{false}
use mathlib.Core.List.{List, [], ◌∷◌, ◌++◌}
use Prim.Native.Nat.{ℕ, zero, suc, ◌+◌, ◌*◌, ◌^◌, ◌≤◌, ◌<◌}
use native.Mathlib.Nat.{add-zero}
use native.Mathlib.Omega.{arith}
use borrow.Author.Tests.{le-ltb, eq-eqb}
use lib.IntN.{ℤ}
use lib.ListN.{length, take, drop, take-append-drop}
use lib.Seq.{drop-drop}
use mir.Syntax.{Width, w32, w64}
use mir.Val.{bits, of_z, SFits}
use mir.ValLaws.{to_z-of_z, of_z-to_z, of_z_fits}
use Rattle.wire.specs.Fields.{field, Field, laid}
use Rattle.wire.specs.Signs.{signed}
use Rattle.wire.proofs.Reading.{field_below}
use Rattle.wire.proofs.Signs.{turned_meant}
use Rattle.records.specs.Layout.{number, size, coverage_start, coverage_end, coverage_offset, transition_instant, transition_offset, day_first, day_last, length_of, coverage_kind, transition_kind, rule_kind, event_kind, head_size}
use Rattle.records.specs.Layout.{rule_label, rule_evidence, rule_derived, event_code, event_evidence, nanoseconds, text, count, time, step}
use Rattle.records.specs.Records.{Point, Record, coverage, transition, rule, event, kind_of, put, point_fields, time_fields, fields_of, body, encode}
use Rattle.records.specs.Records.{points_at, times_at, coverage_at, transition_at, rule_at, event_at, record_at}
use Rattle.records.specs.Book.{kind_at, next_at, bad_frame}
use Rattle.records.specs.Frame.{Framed}
use Rattle.records.specs.Valid.{Bytes, Fits}
use Rattle.records.proofs.Frames.{Kind, one, two, three, four, kind_of_law, is_one, is_two, is_three, is_four}
use Rattle.records.proofs.Laid.{span, Narrow, Says, laid_length, moved, said, laid_says}

-- ---- how long a record is

-- how many points or times it has
abbrev pub items_of : Record → ℕ
items_of (coverage c) = 0
items_of (transition t) = 0
items_of (rule r) = length r.points
items_of (event e) = length e.times

points_span : (ps : List Point) → span (point_fields ps) ≡ step rule_kind * length ps
points_span [] = refl
points_span (p ∷ ps) = omega (arith, points_span ps)

times_span : (ts : List ℕ) → span (time_fields ts) ≡ step event_kind * length ts
times_span [] = refl
times_span (t ∷ ts) = omega (arith, times_span ts)

pub body_length : (r : Record) → length (body r) ≡ length_of (kind_of r) (items_of r)
unfolding body
body_length (coverage c) = laid_length (fields_of (coverage c))
body_length (transition t) = laid_length (fields_of (transition t))
body_length (rule r) = omega (arith, laid_length (fields_of (rule r)), points_span r.points)
body_length (event e) = omega (arith, laid_length (fields_of (event e)), times_span e.times)

-- ---- the fields of a record, its length first

abbrev pub all_fields : Record → List Field
all_fields r = put size (length (body r)) ∷ fields_of r

pub encode_laid : (r : Record) → encode r ≡ laid (all_fields r)
unfolding encode body laid
encode_laid r = refl

pub encode_length : (r : Record) → length (encode r) ≡ 2 + length (body r)
unfolding body
encode_length r = ap length (encode_laid r) ∙ laid_length (all_fields r) ∙ ap (λ (n : ℕ). 2 + n) (sym (laid_length (fields_of r)))

-- at `at` s says the fields of r
abbrev pub RecordStands : Record → List ℕ → ℕ → Type 0
RecordStands r s at = Says (all_fields r) s at 0

-- ---- a signed number

-- the bits of the number that bits mean
bits_back : (w : Width) (x : ℕ) → x < 2 ^ bits w → x ≡ of_z w (signed w x)
bits_back w x h = sym (ap (of_z w) (turned_meant w x h) ∙ of_z-to_z w x (record { fits = h }))

-- the number that its bits mean
signed_back : (w : Width) (x : ℕ) (z : ℤ) → SFits w z → x ≡ of_z w z → signed w x ≡ z
signed_back w x z f e = ap (signed w) e ∙ turned_meant w (of_z w z) (of_z_fits w z f).fits ∙ to_z-of_z w z f

-- ---- what is read at a place is what stands there

points_many : (s : List ℕ) (at n : ℕ) → length (points_at s at n) ≡ n
unfolding points_at
points_many s at zero = refl
points_many s at (suc n) = ap suc (points_many s (at + step rule_kind) n)

times_many : (s : List ℕ) (at n : ℕ) → length (times_at s at n) ≡ n
unfolding times_at
times_many s at zero = refl
times_many s at (suc n) = ap suc (times_many s (at + step event_kind) n)

points_say : (s : List ℕ) (at n : ℕ) → Says (point_fields (points_at s at n)) s at (time rule_kind).from
unfolding points_at
points_say s at zero = tt
points_say s at (suc n) =
    let next = at + step rule_kind in
    let place = (time rule_kind).from in
    (refl, (refl, moved (point_fields (points_at s next n)) s next place at (place + step rule_kind) (omega arith) (points_say s next n)))

times_say : (s : List ℕ) (at n : ℕ) → Says (time_fields (times_at s at n)) s at (time event_kind).from
unfolding times_at
times_say s at zero = tt
times_say s at (suc n) =
    let next = at + step event_kind in
    let place = (time event_kind).from in
    (refl, moved (time_fields (times_at s next n)) s next place at (place + step event_kind) (omega arith) (times_say s next n))

module _ (s : List ℕ) (b : Bytes s) (at : ℕ) where
  long : (i : ℕ) → field 8 s (at + i) ≡ of_z w64 (signed w64 (field 8 s (at + i)))
  long i = bits_back w64 (field 8 s (at + i)) (field_below 8 s (at + i) b)

  short : (i : ℕ) → field 4 s (at + i) ≡ of_z w32 (signed w32 (field 4 s (at + i)))
  short i = bits_back w32 (field 4 s (at + i)) (field_below 4 s (at + i) b)

  below : (i : ℕ) → field 2 s (at + i) < 2 ^ 16
  below i = field_below 2 s (at + i) b

  module _ (z : number size s at ≡ length_of (kind_at s at) (number (count (kind_at s at)) s at)) where
    one_stands : kind_at s at ≡ coverage_kind → RecordStands (coverage (coverage_at s at)) s at
    one_stands k =
        let y : number size s at ≡ length_of coverage_kind 0 = rw k at z in
        let start = long coverage_start.from in
        let end = long coverage_end.from in
        let offset = short coverage_offset.from in
        (y ∙ sym (body_length (coverage (coverage_at s at))), (k, (start, (end, (offset, tt)))))

    two_stands : kind_at s at ≡ transition_kind → RecordStands (transition (transition_at s at)) s at
    two_stands k =
        let y : number size s at ≡ length_of transition_kind 0 = rw k at z in
        let instant = long transition_instant.from in
        let offset = short transition_offset.from in
        (y ∙ sym (body_length (transition (transition_at s at))), (k, (instant, (offset, tt))))

    three_stands : kind_at s at ≡ rule_kind → RecordStands (rule (rule_at s at)) s at
    three_stands k =
        let n = number (count rule_kind) s at in
        let y : number size s at ≡ length_of rule_kind n = rw k at z in
        let m = points_many s at n in
        let x : length (body (rule (rule_at s at))) ≡ length_of rule_kind n = body_length (rule (rule_at s at)) ∙ ap (length_of rule_kind) m in
        let first = short day_first.from in
        let last = short day_last.from in
        let width = long (nanoseconds rule_kind).from in
        (y ∙ sym x, (k, (first, (last, (refl, (refl, (refl, (refl, (refl, (refl, (width, (refl, (sym m, points_say s at n)))))))))))))

    four_stands : kind_at s at ≡ event_kind → RecordStands (event (event_at s at)) s at
    four_stands k =
        let n = number (count event_kind) s at in
        let y : number size s at ≡ length_of event_kind n = rw k at z in
        let m = times_many s at n in
        let x : length (body (event (event_at s at))) ≡ length_of event_kind n = body_length (event (event_at s at)) ∙ ap (length_of event_kind) m in
        let first = short day_first.from in
        let last = short day_last.from in
        let width = long (nanoseconds event_kind).from in
        (y ∙ sym x, (k, (first, (last, (refl, (refl, (refl, (width, (refl, (sym m, times_say s at n))))))))))

  fits_three : Fits (rule (rule_at s at))
  fits_three =
      record { label = below rule_label.from; evidence = below rule_evidence.from; derived = below rule_derived.from; text = below (text rule_kind).from }

  fits_four : Fits (event (event_at s at))
  fits_four = record { code = below event_code.from; evidence = below event_evidence.from; text = below (text event_kind).from }

  pub framed_stands : Framed s at → RecordStands (record_at s at) s at × Fits (record_at s at)
  framed_stands f = go (kind_of_law s at (kind_at s at) f refl)
    where
      go : Kind (kind_at s at) → RecordStands (record_at s at) s at × Fits (record_at s at)
      go (one i) = rw (is_one s at (kind_at s at) f refl i) (one_stands f.sized i, tt)
      go (two i) = rw (is_two s at (kind_at s at) f refl i) (two_stands f.sized i, tt)
      go (three i) = rw (is_three s at (kind_at s at) f refl i) (three_stands f.sized i, fits_three)
      go (four i) = rw (is_four s at (kind_at s at) f refl i) (four_stands f.sized i, fits_four)

  -- the bytes from there on are its encoding and those behind it
  pub splits : (r : Record) → RecordStands r s at → next_at s at ≤ length s → drop at s ≡ encode r ++ drop (next_at s at) s
  unfolding body
  splits r p h =
      let n = span (all_fields r) in
      let long : next_at s at ≡ at + n = omega (arith, p.0, laid_length (fields_of r)) in
      let all : laid (all_fields r) ≡ take n (drop at s) = rw add-zero at (said s b at (all_fields r) 0 p (omega arith)) in
      sym (ap₂ ◌++◌ (encode_laid r ∙ all) (ap (λ (i : ℕ). drop i s) long ∙ sym (drop-drop n at s)) ∙ take-append-drop n (drop at s))

-- ---- what stands at a place is what is read there

-- the encoding of a record says its fields, where each fits its width
pub encoded : (r : Record) → Narrow (all_fields r) → (s a b : List ℕ) (at : ℕ) → s ≡ a ++ (encode r ++ b) → at ≡ length a → RecordStands r s at
encoded r n s a b at e i = rw (e, encode_laid r) (laid_says (all_fields r) n a b at 0 (omega arith))

pub behind : (r : Record) (s : List ℕ) (at : ℕ) → RecordStands r s at → next_at s at ≡ at + length (encode r)
behind r s at p = omega (arith, p.0, encode_length r)

frame_good : (s : List ℕ) (at : ℕ) → Framed s at → bad_frame s at ≡ false
unfolding bad_frame
frame_good s at f =
    simp (
      le-ltb (length s) (at + head_size) f.head,
      le-ltb (length s) (next_at s at) f.whole,
      le-ltb (kind_at s at) coverage_kind f.kind_low,
      le-ltb event_kind (kind_at s at) f.kind_high,
      eq-eqb _ _ f.sized,
    )

stands_framed : (r : Record) (s : List ℕ) (at : ℕ) → RecordStands r s at → next_at s at ≤ length s → Framed s at
stands_framed (coverage c) s at (z, (k, p)) h =
    let y : number size s at ≡ length_of coverage_kind 0 = z ∙ body_length (coverage c) in
    record { kind_low = omega arith; kind_high = omega arith; head = omega arith; whole = h; sized = rw k y }
stands_framed (transition t) s at (z, (k, p)) h =
    let y : number size s at ≡ length_of transition_kind 0 = z ∙ body_length (transition t) in
    record { kind_low = omega arith; kind_high = omega arith; head = omega arith; whole = h; sized = rw k y }
stands_framed (rule r) s at (z, (k, (_, (_, (_, (_, (_, (_, (_, (_, (_, (_, (n, p))))))))))))) h =
    let y : number size s at ≡ length_of rule_kind (number (count rule_kind) s at) = z ∙ body_length (rule r) ∙ ap (length_of rule_kind) (sym n) in
    record { kind_low = omega arith; kind_high = omega arith; head = omega arith; whole = h; sized = rw k y }
stands_framed (event e) s at (z, (k, (_, (_, (_, (_, (_, (_, (_, (n, p)))))))))) h =
    let y : number size s at ≡ length_of event_kind (number (count event_kind) s at) = z ∙ body_length (event e) ∙ ap (length_of event_kind) (sym n) in
    record { kind_low = omega arith; kind_high = omega arith; head = omega arith; whole = h; sized = rw k y }

pub good_frame : (r : Record) (s : List ℕ) (at : ℕ) → RecordStands r s at → next_at s at ≤ length s → bad_frame s at ≡ false
good_frame r s at p h = frame_good s at (stands_framed r s at p h)

points_read : (ps : List Point) (s : List ℕ) (at : ℕ) → Says (point_fields ps) s at (time rule_kind).from → points_at s at (length ps) ≡ ps
unfolding points_at
points_read [] s at p = refl
points_read (q ∷ ps) s at p =
    let next = at + step rule_kind in
    let place = (time rule_kind).from in
    let on = points_read ps s next (moved (point_fields ps) s at (place + step rule_kind) next place (omega arith) p.1.1) in
    rw (p.0, p.1.0, on)

times_read : (ts : List ℕ) (s : List ℕ) (at : ℕ) → Says (time_fields ts) s at (time event_kind).from → times_at s at (length ts) ≡ ts
unfolding times_at
times_read [] s at p = refl
times_read (t ∷ ts) s at p =
    let next = at + step event_kind in
    let place = (time event_kind).from in
    let on = times_read ts s next (moved (time_fields ts) s at (place + step event_kind) next place (omega arith) p.1) in
    rw (p.0, on)

-- a record's integers fit their widths
abbrev pub Integers : Record → Type 0
Integers (coverage c) = SFits w64 c.start × SFits w64 c.end × SFits w32 c.offset
Integers (transition t) = SFits w64 t.at × SFits w32 t.offset
Integers (rule r) = SFits w32 r.first × SFits w32 r.last × SFits w64 r.uncertainty.nanoseconds
Integers (event e) = SFits w32 e.first × SFits w32 e.last × SFits w64 e.uncertainty.nanoseconds

pub read : (r : Record) → Integers r → (s : List ℕ) (at : ℕ) → RecordStands r s at → record_at s at ≡ r
read (coverage c) (f, g, h) s at (_, (k, (a, (b, (d, _))))) =
    let start = signed_back w64 (number coverage_start s at) c.start f a in
    let end = signed_back w64 (number coverage_end s at) c.end g b in
    let offset = signed_back w32 (number coverage_offset s at) c.offset h d in
    rw k (rw (start, end, offset))
read (transition t) (f, g) s at (_, (k, (a, (b, _)))) =
    let instant = signed_back w64 (number transition_instant s at) t.at f a in
    let offset = signed_back w32 (number transition_offset s at) t.offset g b in
    rw k (rw (instant, offset))
read (rule r) (f, g, h) s at (_, (k, (a, (b, (c, (m, (l, (v, (d, (t, (u, (x, (n, p))))))))))))) =
    let first = signed_back w32 (number day_first s at) r.first f a in
    let last = signed_back w32 (number day_last s at) r.last g b in
    let width = signed_back w64 (number (nanoseconds rule_kind) s at) r.uncertainty.nanoseconds h u in
    rw k (rw (first, last, width, c, m, l, v, d, t, x, n, points_read r.points s at p))
read (event e) (f, g, h) s at (_, (k, (a, (b, (c, (v, (t, (u, (x, (n, p)))))))))) =
    let first = signed_back w32 (number day_first s at) e.first f a in
    let last = signed_back w32 (number day_last s at) e.last g b in
    let width = signed_back w64 (number (nanoseconds event_kind) s at) e.uncertainty.nanoseconds h u in
    rw k (rw (first, last, width, c, v, t, x, n, times_read e.times s at p))
