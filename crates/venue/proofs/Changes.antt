-- The header and the clock changes of records that pass one after the other: their numbers are in range and far enough apart. Assumes nothing.
use mathlib.Core.Path.{◌≡◌, sym, ap, ap₂, ◌∙◌}
use mathlib.Core.Bool.{true, false, not, ◌&&◌, ◌||◌}
use mathlib.Core.List.{List, [], ◌∷◌}
use Rattle.std.specs.Prelude.{Option, None, Some}
use Prim.Native.Nat.{ℕ, suc, ◌+◌, ◌-◌, ◌*◌, ◌≤◌, ◌<◌}
use native.Mathlib.Omega.{arith}
use borrow.Author.Tests.{ltb-false, leb-true, leb-false, not-false}
use lib.Dec.{leb}
use lib.IntN.{ℤ, pos, negsuc, ◌+ℤ◌}
use lib.ListN.{length-map}
use lib.Signed.{lt_z, le_z}
use mir.Syntax.{Width, w32, w64}
use Rattle.wire.specs.Signs.{half, since, placed, meant}
use Rattle.wire.proofs.Signs.{and_true, meant_placed, meant_sum, since_meant, order_lt, order_le}
use Rattle.calendar.specs.Answers.{first_day, last_day, zero_day}
use Rattle.zone.specs.Units.{second_ns, day_ns, most_offset, seconds_instant, spacing}
use Rattle.zone.specs.Answers.{Each, After, Spaced, Valid}
use Rattle.records.specs.Limits.{base}
use Rattle.records.specs.Records.{Coverage, Record, coverage, transition, rule, event}
use Rattle.records.specs.Book.{Range, inside, instants, seconds, offsets, bad_fields, bad_items, last_instant, closer, covers_nothing, instants_before, instants_after, seconds_before, seconds_after}
use Rattle.records.proofs.Tests.{or_false}
use Rattle.records.proofs.Cascade.{Passed}
use Rattle.venue.specs.Opening.{offset_of, coverage_of, transitions_of, ats_of, offsets_of}
use Rattle.venue.specs.Reading.{GoodCoverage}

-- ---- a number in its range, as its field places it

record Within (w : Width) (low high : ℕ) (z : ℤ) : Type 0 where
  place : ℕ
  same : z ≡ meant w place
  above : half w - suc low ≤ place
  below : place ≤ half w + high

abbrev range : ℕ → ℕ → Range
range low high = record { low = negsuc low; high = pos high }

within : (w : Width) (low high : ℕ) (z : ℤ) → low < half w → high < half w → not (inside (range low high) z) ≡ false → Within w low high z
unfolding placed
within w low high (pos n) l h e =
    let b = leb-true n high (not-false (leb n high) e) in
    let same = sym (meant_placed w (pos n) (record { sfits = omega arith })) in
    record { place = n + half w; same = same; above = omega arith; below = omega arith }
within w low high (negsuc n) l h e =
    let b = leb-true n low (and_true (leb n low) true (not-false (leb n low && true) e)).0 in
    let same = sym (meant_placed w (negsuc n) (record { sfits = omega arith })) in
    record { place = half w - suc n; same = same; above = omega arith; below = omega arith }

module _ {w : Width} {low high : ℕ} {z : ℤ} (m : Within w low high z) where
  -- counted from an origin below the range
  counted : (e : ℕ) → low < e → e ≤ half w → since e z ≡ m.place - (half w - e)
  counted e l h = ap (since e) m.same ∙ since_meant w e m.place h

  module _ {z' : ℤ} (m' : Within w low high z') where
    before : le_z z' z ≡ false → m.place < m'.place
    before e = leb-false m'.place m.place (sym (ap₂ le_z m'.same m.same ∙ order_le w m'.place m.place) ∙ e)

    apart : (k : ℕ) → lt_z z' (z +ℤ pos k) ≡ false → m.place + k ≤ m'.place
    apart k e =
        ltb-false m'.place (m.place + k)
        (sym (ap₂ lt_z m'.same (ap (λ (i : ℤ). i +ℤ pos k) m.same ∙ meant_sum w m.place k) ∙ order_lt w m'.place (m.place + k)) ∙ e)

-- the ranges of a book: an instant of coverage, the second of a clock change, an offset
abbrev Instant : ℤ → Type 0
Instant z = Within w64 (instants_before - 1) instants_after z

instant_within : (z : ℤ) → not (inside instants z) ≡ false → Instant z
instant_within z e = within w64 (instants_before - 1) instants_after z (omega arith) (omega arith) e

abbrev Second : ℤ → Type 0
Second z = Within w64 (seconds_before - 1) seconds_after z

second_within : (z : ℤ) → not (inside seconds z) ≡ false → Second z
second_within z e = within w64 (seconds_before - 1) seconds_after z (omega arith) (omega arith) e

abbrev Offset : ℤ → Type 0
Offset z = Within w32 (most_offset - 1) most_offset z

offset_within : (z : ℤ) → not (inside offsets z) ≡ false → Offset z
offset_within z e = within w32 (most_offset - 1) most_offset z (omega arith) (omega arith) e

offset_in : {z : ℤ} → Offset z → offset_of z ≤ 2 * most_offset
offset_in m = let c = counted m most_offset (omega arith) (omega arith) in let b = m.below in omega arith

-- ---- the header

record Header (c : Coverage) : Type 0 where
  start : Instant c.start
  end : Instant c.end
  offset : Offset c.offset

header : (c : Coverage) → bad_fields base (coverage c) ≡ false → Header c
unfolding bad_fields
header c e =
    let o = or_false (not (inside instants c.start) || not (inside instants c.end)) (not (inside offsets c.offset)) e in
    let i = or_false (not (inside instants c.start)) (not (inside instants c.end)) o.0 in
    record { start = instant_within c.start i.0; end = instant_within c.end i.1; offset = offset_within c.offset o.1 }

covers : (c : Coverage) → Header c → covers_nothing (coverage c) ≡ false → GoodCoverage c
covers c h e =
    let a = counted h.start (zero_day * day_ns) (omega arith) (omega arith) in
    let b = counted h.end (zero_day * day_ns) (omega arith) (omega arith) in
    let l = h.start.above in
    let r = h.end.below in
    let o = before h.start h.end e in
    record { start_low = omega arith; order = omega arith; end_high = omega arith }

-- ---- the clock changes

-- each record passes after those before it, the latest first
abbrev pub Chain : List Record → List Record → Type 0
Chain earlier [] = Unit {0}
Chain earlier (r ∷ rs) = Passed base earlier r × Chain (r ∷ earlier) rs

-- of the last clock change before, if there is one: it is in its range, and the next comes far enough behind it
abbrev Last : Option ℤ → Type 0
Last None = Unit {0}
Last (Some z) = Second z

abbrev Behind : Option ℤ → List ℕ → Type 0
Behind None ats = Unit {0}
Behind (Some z) ats = After (seconds_instant z) ats

record Changes (o : Option ℤ) (ats changed : List ℕ) : Type 0 where
  offsets_in : Each 0 (2 * most_offset) changed
  ats_in : Each (first_day * day_ns) ((last_day + 1) * day_ns) ats
  spaced : Spaced ats
  behind : Behind o ats

no_changes : (o : Option ℤ) → Changes o [] []
no_changes None = record { offsets_in = tt; ats_in = tt; spaced = tt; behind = tt }
no_changes (Some z) = record { offsets_in = tt; ats_in = tt; spaced = tt; behind = tt }

second_value : {z : ℤ} (m : Second z) → seconds_instant z ≡ (m.place - (half w64 - zero_day * 86400)) * second_ns
second_value m = ap (λ (i : ℕ). i * second_ns) (counted m (zero_day * 86400) (omega arith) (omega arith))

far : (o : Option ℤ) {z : ℤ} (ats : List ℕ) → Last o → Second z → closer o z ≡ false → Behind o (seconds_instant z ∷ ats)
far None ats l m e = tt
far (Some y) ats l m e =
    let a = second_value l in
    let b = second_value m in
    let d = apart l m spacing e in
    let r = l.above in
    omega arith

changes : (earlier rs : List Record) → Chain earlier rs → Last (last_instant earlier)
    → Changes (last_instant earlier) (ats_of rs) (offsets_of rs)
unfolding transitions_of bad_fields
changes earlier [] c l = no_changes (last_instant earlier)
changes earlier (coverage v ∷ rs) c l = changes (coverage v ∷ earlier) rs c.1 l
changes earlier (rule v ∷ rs) c l = changes (rule v ∷ earlier) rs c.1 l
changes earlier (event v ∷ rs) c l = changes (event v ∷ earlier) rs c.1 l
changes earlier (transition t ∷ rs) c l =
    let f = (or_false (bad_fields base (transition t)) (bad_items (transition t)) c.0.fields).0 in
    let o = or_false (not (inside seconds t.at)) (not (inside offsets t.offset)) f in
    let m = second_within t.at o.0 in
    let n = offset_within t.offset o.1 in
    let on = changes (transition t ∷ earlier) rs c.1 m in
    let v = second_value m in
    let low = m.above in
    let high = m.below in
    record {
      offsets_in = (omega arith, offset_in n, on.offsets_in);
      ats_in = (omega arith, omega arith, on.ats_in);
      spaced = (on.behind, on.spaced);
      behind = far (last_instant earlier) (ats_of rs) l m c.0.apart;
    }

-- ---- of a whole book

no_coverage : {c : Coverage} → None ≡ Some c → ⊥
no_coverage e = let z : ◌≡◌ {A = ℕ} 0 1 = cc in omega arith

first_header : (rs : List Record) (c : Coverage) → Chain [] rs → coverage_of rs ≡ Some c → Header c × (covers_nothing (coverage c) ≡ false)
first_header [] c p e = absurd (no_coverage e)
first_header (coverage v ∷ rs) c p e =
    let i : v ≡ c = cc in
    rw⁻¹ i (header v (or_false (bad_fields base (coverage v)) (bad_items (coverage v)) p.0.fields).0, p.0.covering)
first_header (transition v ∷ rs) c p e = absurd (no_coverage e)
first_header (rule v ∷ rs) c p e = absurd (no_coverage e)
first_header (event v ∷ rs) c p e = absurd (no_coverage e)

module _ (rs : List Record) (chain : Chain [] rs) (c : Coverage) (e : coverage_of rs ≡ Some c) where
  pub covers_good : GoodCoverage c
  covers_good = let h = first_header rs c chain e in covers c h.0 h.1

  pub changes_valid : Valid (offset_of c.offset) (ats_of rs) (offsets_of rs)
  changes_valid =
      let h = first_header rs c chain e in
      let v = changes [] rs chain tt in
      record {
        alike = length-map (transitions_of rs) _ ∙ sym (length-map (transitions_of rs) _);
        first_in = offset_in h.0.offset;
        offsets_in = v.offsets_in;
        ats_in = v.ats_in;
        spaced = v.spaced;
      }
