-- Each field of a record that is good by itself fits its width. Assumes nothing.
use mathlib.Core.Path.{◌≡◌, sym}
use mathlib.Core.Bool.{true, false, not, ◌&&◌, ◌||◌}
use mathlib.Core.List.{List, [], ◌∷◌}
use Prim.Native.Nat.{ℕ, ◌^◌, ◌≤◌, ◌<◌}
use native.Mathlib.Omega.{arith}
use borrow.Author.Tests.{ltb-false, leb-true, leb-false, not-false}
use lib.Dec.{ltb, eqb}
use lib.IntN.{ℤ, pos, negsuc}
use lib.ListN.{length}
use lib.Signed.{mag, le_z}
use mir.Syntax.{Width, w32, w64}
use mir.Val.{hbits, of_z, SFits}
use mir.ValLaws.{of_z_fits}
use Rattle.wire.proofs.Signs.{and_true}
use Rattle.records.specs.Limits.{Limits}
use Rattle.records.specs.Records.{Published, Point, Rule, Record, coverage, transition, rule, event, point_fields, time_fields, body}
use Rattle.records.specs.Book.{Range, inside, instants, seconds, offsets, days, widths, any, bad_uncertainty, bad_days, bad_rule, bad_time, bad_point, bad_fields, outside, last_code, last_mask, last_phase, last_published}
use Rattle.records.specs.Valid.{Fits, Countable}
use Rattle.records.proofs.Tests.{or_false}
use Rattle.records.proofs.Laid.{Narrow}
use Rattle.records.proofs.Encoding.{body_length, all_fields, Integers}

truth : true ≡ false → ⊥
truth e = let z : ◌≡◌ {A = ℕ} 0 1 = cc in omega arith

-- ---- an integer of a range fits a width that holds the range's ends

low_end : (h : ℕ) (low : ℤ) (n : ℕ) → mag low < h → le_z low (negsuc n) ≡ true → n < h
low_end h (pos a) n l e = absurd (truth (sym e))
low_end h (negsuc a) n l e = omega (arith, leb-true n a e)

high_end : (h : ℕ) (high : ℤ) (n : ℕ) → mag high < h → le_z (pos n) high ≡ true → n < h
high_end h (pos b) n l e = omega (arith, leb-true n b e)
high_end h (negsuc b) n l e = absurd (truth (sym e))

pub in_range : (w : Width) (r : Range) (z : ℤ) → mag r.low < 2 ^ hbits w → mag r.high < 2 ^ hbits w → not (inside r z) ≡ false → SFits w z
in_range w r (pos n) a b e =
    let both = and_true (le_z r.low (pos n)) (le_z (pos n) r.high) (not-false _ e) in
    record { sfits = high_end (2 ^ hbits w) r.high n b both.1 }
in_range w r (negsuc n) a b e =
    let both = and_true (le_z r.low (negsuc n)) (le_z (negsuc n) r.high) (not-false _ e) in
    record { sfits = low_end (2 ^ hbits w) r.low n a both.0 }

instant_fits : (z : ℤ) → not (inside instants z) ≡ false → SFits w64 z
instant_fits z e = in_range w64 instants z (omega arith) (omega arith) e

second_fits : (z : ℤ) → not (inside seconds z) ≡ false → SFits w64 z
second_fits z e = in_range w64 seconds z (omega arith) (omega arith) e

offset_fits : (z : ℤ) → not (inside offsets z) ≡ false → SFits w32 z
offset_fits z e = in_range w32 offsets z (omega arith) (omega arith) e

day_fits : (z : ℤ) → not (inside days z) ≡ false → SFits w32 z
day_fits z e = in_range w32 days z (omega arith) (omega arith) e

width_fits : (z : ℤ) → not (inside widths z) ≡ false → SFits w64 z
width_fits z e = in_range w64 widths z (omega arith) (omega arith) e

-- ---- points and times

points_narrow : (ps : List Point) → any bad_point ps ≡ false → Narrow (point_fields ps)
points_narrow [] e = tt
points_narrow (p ∷ ps) e =
    let both = or_false (bad_point p) (any bad_point ps) e in
    let here = or_false (bad_time p.time) (ltb last_phase p.phase) both.0 in
    let t = leb-false _ p.time here.0 in
    let f = ltb-false 7 p.phase here.1 in
    (omega arith, (omega arith, points_narrow ps both.1))

times_narrow : (ts : List ℕ) → any bad_time ts ≡ false → Narrow (time_fields ts)
times_narrow [] e = tt
times_narrow (t ∷ ts) e =
    let both = or_false (bad_time t) (any bad_time ts) e in
    let h = leb-false _ t both.0 in
    (omega arith, times_narrow ts both.1)

-- ---- parts of records

uncertainty_fits : (u : Published) → bad_uncertainty u ≡ false → (u.tag ≤ last_published) × SFits w64 u.nanoseconds
uncertainty_fits u e =
    let a = or_false (ltb last_published u.tag || not (inside widths u.nanoseconds)) _ e in
    let b = or_false (ltb last_published u.tag) (not (inside widths u.nanoseconds)) a.0 in
    (ltb-false 3 u.tag b.0, width_fits u.nanoseconds b.1)

days_fit : (first last : ℤ) → bad_days first last ≡ false → SFits w32 first × SFits w32 last
days_fit first last e =
    let a = or_false (not (inside days first)) (not (inside days last)) e in
    (day_fits first a.0, day_fits last a.1)

record RuleFits (r : Rule) : Type 0 where
  first : SFits w32 r.first
  last : SFits w32 r.last
  code : r.code ≤ last_code
  mask : r.mask ≤ last_mask
  tag : r.uncertainty.tag ≤ last_published
  width : SFits w64 r.uncertainty.nanoseconds

rule_fits : (r : Rule) → bad_rule r ≡ false → RuleFits r
rule_fits r e =
    let a = or_false ((bad_days r.first r.last || ltb last_code r.code) || ltb last_mask r.mask) _ e in
    let b = or_false (bad_days r.first r.last || ltb last_code r.code) (ltb last_mask r.mask) a.0 in
    let c = or_false (bad_days r.first r.last) (ltb last_code r.code) b.0 in
    let day = days_fit r.first r.last c.0 in
    let o = (eqb r.code 0 && not (eqb r.label 0)) || (not (eqb r.code 0) && not (eqb r.mask 0)) in
    let d = or_false o (bad_uncertainty r.uncertainty) a.1 in
    let u = uncertainty_fits r.uncertainty d.1 in
    record {
      first = day.0;
      last = day.1;
      code = ltb-false 3 r.code c.1;
      mask = ltb-false last_mask r.mask b.1;
      tag = u.0;
      width = u.1;
    }

bits32 : (z : ℤ) → SFits w32 z → of_z w32 z < 256 ^ 4
bits32 z f = (of_z_fits w32 z f).fits

bits64 : (z : ℤ) → SFits w64 z → of_z w64 z < 256 ^ 8
bits64 z f = (of_z_fits w64 z f).fits

module _ (l : Limits) (c : Countable l) where
  pub all_narrow : (r : Record) → Fits r → outside l r ≡ false → Narrow (all_fields r) × Integers r
  unfolding bad_fields
  all_narrow (coverage v) f e =
      let a = or_false (bad_fields l (coverage v)) false e in
      let b = or_false (not (inside instants v.start) || not (inside instants v.end)) (not (inside offsets v.offset)) a.0 in
      let d = or_false (not (inside instants v.start)) (not (inside instants v.end)) b.0 in
      let x = instant_fits v.start d.0 in
      let y = instant_fits v.end d.1 in
      let z = offset_fits v.offset b.1 in
      let n = body_length (coverage v) in
      ((omega arith, (omega arith, (bits64 v.start x, (bits64 v.end y, (bits32 v.offset z, tt))))), (x, y, z))
  all_narrow (transition t) f e =
      let a = or_false (bad_fields l (transition t)) false e in
      let b = or_false (not (inside seconds t.at)) (not (inside offsets t.offset)) a.0 in
      let x = second_fits t.at b.0 in
      let y = offset_fits t.offset b.1 in
      let n = body_length (transition t) in
      ((omega arith, (omega arith, (bits64 t.at x, (bits32 t.offset y, tt)))), (x, y))
  all_narrow (rule r) f e =
      let a = or_false (bad_fields l (rule r)) (any bad_point r.points) e in
      let b = or_false (bad_rule r) (ltb l.points (length r.points)) a.0 in
      let q = rule_fits r b.0 in
      let n = ltb-false l.points (length r.points) b.1 in
      let m = body_length (rule r) in
      let x = bits32 r.first q.first in
      let y = bits32 r.last q.last in
      let z = bits64 r.uncertainty.nanoseconds q.width in
      let ps = points_narrow r.points a.1 in
      let size : length (body (rule r)) < 256 ^ 2 = omega (arith, c.points) in
      let many : length r.points < 256 ^ 1 = omega (arith, c.points) in
      let code : r.code < 256 ^ 1 = omega (arith, q.code) in
      let mask : r.mask < 256 ^ 1 = omega (arith, q.mask) in
      let tag : r.uncertainty.tag < 256 ^ 1 = omega (arith, q.tag) in (
        (size, (omega arith, (x, (y, (code, (mask, (f.label, (f.evidence, (f.derived, (tag, (z, (f.text, (many, ps))))))))))))),
        (q.first, q.last, q.width),
      )
  all_narrow (event v) f e =
      let a = or_false (bad_fields l (event v)) (any bad_time v.times) e in
      let b = or_false (bad_days v.first v.last || bad_uncertainty v.uncertainty) (ltb l.times (length v.times)) a.0 in
      let d = or_false (bad_days v.first v.last) (bad_uncertainty v.uncertainty) b.0 in
      let day = days_fit v.first v.last d.0 in
      let u = uncertainty_fits v.uncertainty d.1 in
      let n = ltb-false l.times (length v.times) b.1 in
      let m = body_length (event v) in
      let x = bits32 v.first day.0 in
      let y = bits32 v.last day.1 in
      let z = bits64 v.uncertainty.nanoseconds u.1 in
      let ts = times_narrow v.times a.1 in
      let size : length (body (event v)) < 256 ^ 2 = omega (arith, c.times) in
      let many : length v.times < 256 ^ 1 = omega (arith, c.times) in
      let tag : v.uncertainty.tag < 256 ^ 1 = omega (arith, u.0) in
      ((size, (omega arith, (x, (y, (f.code, (f.evidence, (tag, (z, (f.text, (many, ts)))))))))), (day.0, day.1, u.1))
