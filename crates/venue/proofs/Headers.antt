-- What opening answers: a refusal, no data, or a header. Assumes nothing.
use mathlib.Core.Path.{◌≡◌, refl, sym, ap, ◌∙◌}
use mathlib.Core.Bool.{false, not, ◌||◌}
use mathlib.Core.List.{List, [], ◌∷◌}
use Rattle.std.specs.Prelude.{Option, None, Some, Result, Ok, Err}
use Prim.Native.Nat.{ℕ, zero, suc, ◌+◌, ◌-◌, ◌≤◌, ◌<◌}
use native.Mathlib.Omega.{arith}
use borrow.Author.Tests.{eq-eqb, ne_eqb, eqb-true, not-false}
use lib.ListN.{length}
use mir.Syntax.{w32, w64}
use Rattle.wire.specs.Fields.{wrote}
use Rattle.wire.specs.Signs.{half, meant, turned}
use Rattle.wire.proofs.Signs.{since_meant}
use Rattle.wire.proofs.Writing.{wrote_nothing}
use Rattle.zone.specs.Units.{instant_of, most_offset}
use Rattle.records.specs.Layout.{number, coverage_start, coverage_end, coverage_offset, coverage_kind, coverage_size}
use Rattle.records.specs.Limits.{base}
use Rattle.records.specs.Records.{Record, coverage, coverage_at, record_at, kind_of}
use Rattle.records.specs.Book.{inside, instants, offsets, kind_at, next_at, bad_fields, refusal, records_from, records, instants_before, instants_after}
use Rattle.records.specs.Frame.{Framed}
use Rattle.records.proofs.Tests.{or_false, inside_range}
use Rattle.records.proofs.Frames.{is_one, room1}
use Rattle.venue.specs.Opening.{coverage_of, transitions_of, ats_of, offsets_of, places_from, places, opened, stored}
use Rattle.venue.specs.declared.opened.Header.{Header}
use Rattle.venue.specs.declared.opened.Counts.{Counts}
use Rattle.venue.specs.Private.{counts_of}
use Rattle.venue.proofs.Passing.{Ahead, ahead_start, ahead_next, no_turns, one_record, kind_here}

-- ---- refused

module _ (s : List ℕ) (e : refusal base s ≡ 0 → ⊥) where
  pub refused_answer : (n : ℕ) → n ≡ refusal base s → ◌≡◌ {A = Result (Option Header) ℕ} (Err n) (opened s)
  unfolding opened
  refused_answer n q = rw q (simp (ne_eqb (refusal base s) 0 e))

  pub refused_kept : (old vs : List ℕ) → old ≡ stored s old vs
  unfolding stored
  refused_kept old vs = simp (ne_eqb (refusal base s) 0 e)

-- ---- accepted

module _ (s : List ℕ) (e : refusal base s ≡ 0) where
  pub accepted_stored : (old vs : List ℕ) → wrote old 0 vs ≡ stored s old vs
  unfolding stored
  accepted_stored old vs = simp (eq-eqb (refusal base s) 0 e)

  pub nothing_stored : (old vs : List ℕ) → vs ≡ [] → old ≡ stored s old vs
  nothing_stored old vs q = sym (wrote_nothing old 0) ∙ ap (wrote old 0) (sym q) ∙ accepted_stored old vs

  -- no bytes
  module _ (z : length s ≡ 0) where
    pub no_records : records s ≡ []
    unfolding records records_from
    no_records = rw z

    pub empty_answer : ◌≡◌ {A = Result (Option Header) ℕ} (Ok None) (opened s)
    unfolding opened
    empty_answer = rw (no_records, e)

    pub empty_places : (k : ℕ) → places k s ≡ []
    unfolding places_from
    empty_places k = rw z

    pub empty_ats : ats_of (records s) ≡ []
    unfolding transitions_of
    empty_ats = rw no_records

    pub empty_offsets : offsets_of (records s) ≡ []
    unfolding transitions_of
    empty_offsets = rw no_records

-- ---- a venue

-- the first record
pub record Head (s : List ℕ) : Type 0 where
  pub room : coverage_size ≤ length s
  pub start_low : half w64 - instants_before ≤ turned w64 (number coverage_start s 0)
  pub end_low : half w64 - instants_before ≤ turned w64 (number coverage_end s 0)
  pub offset_low : half w32 - most_offset ≤ turned w32 (number coverage_offset s 0)
  pub is : coverage_of (records s) ≡ Some (coverage_at s 0)

module _ (s : List ℕ) (e : refusal base s ≡ 0) (ne : length s ≡ 0 → ⊥) where
  first_by : (turns : ℕ) → Ahead s 0 turns []
      → Framed s 0 × (kind_at s 0 ≡ coverage_kind) × (bad_fields base (record_at s 0) ≡ false) × (coverage_of (records_from s turns 0) ≡ Some (coverage_at s 0))
  first_by zero a = absurd (no_turns a (omega arith))
  first_by (suc g) a =
      let h : 0 < length s = omega arith in
      let n = ahead_next a h in
      let k : kind_at s 0 ≡ coverage_kind = sym (kind_here s 0 n.frame) ∙ eqb-true (kind_of (record_at s 0)) coverage_kind (not-false _ n.passes.headed) in (
        n.frame,
        k,
        (or_false (bad_fields base (record_at s 0)) _ n.passes.fields).0,
        ap coverage_of (one_record s 0 g h ∙ ap (λ (r : Record). r ∷ records_from s g (next_at s 0)) (is_one s 0 (kind_at s 0) n.frame refl k)),
      )

  pub head : Head s
  unfolding bad_fields meant records
  head =
      let f = first_by (length s) (ahead_start s e) in
      let v = coverage_at s 0 in
      let z : bad_fields base (coverage v) ≡ false = ap (bad_fields base) (sym (is_one s 0 (kind_at s 0) f.0 refl f.1)) ∙ f.2 in
      let q = or_false (not (inside instants v.start) || not (inside instants v.end)) (not (inside offsets v.offset)) z in
      let o = or_false (not (inside instants v.start)) (not (inside instants v.end)) q.0 in
      let low = half w64 - instants_before in
      let high = half w64 + instants_after in
      let a = inside_range w64 low high (turned w64 (number coverage_start s 0)) o.0 in
      let b = inside_range w64 low high (turned w64 (number coverage_end s 0)) o.1 in
      let c = inside_range w32 (half w32 - most_offset) (half w32 + most_offset) (turned w32 (number coverage_offset s 0)) q.1 in
      record {
        room = let r = room1 s 0 (kind_at s 0) f.0 refl f.1 in omega arith;
        start_low = a.0;
        end_low = b.0;
        offset_low = c.0;
        is = f.3;
      }

  pub venue_answer : {p q a b o : ℕ} {n : Counts} → p ≡ turned w64 (number coverage_start s 0) → a ≡ instant_of (meant w64 p)
      → q ≡ turned w64 (number coverage_end s 0)
      → b ≡ instant_of (meant w64 q)
      → o ≡ turned w32 (number coverage_offset s 0)
      → n ≡ counts_of (records s)
      → ◌≡◌ {A = Result (Option Header) ℕ}
      (Ok
      (Some
      (record {
        coverage = record { start = record { 0 = a }; end = record { 0 = b } };
        offset0 = o - (half w32 - most_offset);
        transitions = n.transitions;
        rules = n.rules;
        events = n.events;
      })))
      (opened s)
  unfolding opened
  venue_answer qp qa qq qb qo qn =
      let i = qa ∙ ap (λ (x : ℕ). instant_of (meant w64 x)) qp in
      let j = qb ∙ ap (λ (x : ℕ). instant_of (meant w64 x)) qq in
      let k = sym (since_meant w32 most_offset (turned w32 (number coverage_offset s 0)) (omega arith)) in
      rw (i, j, qo, qn, k, head.is, e)
