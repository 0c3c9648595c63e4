-- The three parts of a window's answer: unknown before coverage, the walk, unknown after. Assumes nothing.
use mathlib.Core.Path.{◌≡◌, refl, sym, ap, ◌∙◌, subst}
use mathlib.Core.Bool.{Bool, true, false, cond}
use mathlib.Core.List.{List, [], ◌∷◌, ◌++◌, append_assoc}
use Rattle.std.specs.Prelude.{Option, None, Some}
use Prim.Native.Nat.{ℕ, ◌+◌, ◌≤◌, ◌<◌, min, max}
use native.Mathlib.Omega.{arith}
use borrow.Author.Tests.{lt-ltb, le-ltb}
use lib.Dec.{ltb}
use lib.ListN.{length}
use Rattle.wire.specs.Fields.{wrote, Put}
use Rattle.wire.proofs.Writing.{also, wrote_nothing}
use Rattle.zone.specs.Units.{instant_number}
use Rattle.zone.specs.Zone.{Zone}
use Rattle.records.specs.Records.{Rule, Event}
use Rattle.spans.specs.Spans.{Span, keep, joined}
use Rattle.spans.specs.Timeline.{Part, turns, walk}
use Rattle.spans.proofs.Mapping.{on_spans, walk_map, joined_map}
use Rattle.spans.proofs.Parts.{Phases, in_parts_law}
use Rattle.day.specs.Days.{Values, Held, venue_by}
use Rattle.answer.specs.Forms.{Cover, Form, unknown, encode, encode_all, gap_size}
use Rattle.answer.specs.Meaning.{cover_of, gap_of}
use Rattle.zone.specs.declared.Interval.{Interval}
use Rattle.answer.proofs.Readback.{encode_length}
use Rattle.answer.proofs.Several.{one_form, encode_append, append_length}
use Rattle.lend.specs.Lending.{Lent}
use Rattle.lend.proofs.Replies.{lent_short, lent_written, lent_same}
use Rattle.span_records.specs.Shown.{Shown, shown, shown_forms}
use Rattle.joining.specs.Joining.{phases}
use Rattle.walk_records.specs.Walked.{phase_forms, walk_spans}
use Rattle.timeline.specs.Segments.{mark_of, merged_bodies, segments, showing, timeline_of}
use Rattle.timeline.specs.Asking.{segment_forms, timeline_forms}
use Rattle.timeline.specs.Private.{gap_forms, told}

-- ---- a stretch of which nothing is known

abbrev pub gap_takes : ℕ → ℕ → ℕ
gap_takes from to = cond (ltb from to) gap_size 0

pub gap_some : {from to : ℕ} → from < to → gap_takes from to ≡ gap_size
gap_some {from} {to} h = simp (lt-ltb from to h)

module _ (c : Option Interval) {from to : ℕ} {room : List ℕ} {at : ℕ} where
  -- it is written
  pub gap_put : {left : List ℕ} {next : ℕ} → from < to → Put room at (encode (unknown (gap_of from to c))) gap_size left next
      → Put room at (encode_all (gap_forms (cover_of c) from to)) (gap_takes from to) left next
  unfolding keep timeline_forms
  gap_put h w = let e = lt-ltb from to h in rw (e, ← (one_form (unknown (gap_of from to c)))) w

  -- it is empty
  pub gap_skip : to ≤ from → Put room at (encode_all (gap_forms (cover_of c) from to)) (gap_takes from to) room at
  unfolding keep timeline_forms encode_all
  gap_skip h =
      let e = le-ltb from to h in
      rw e (record { same = sym (wrote_nothing room at); behind = omega arith; many = refl; kept = refl })

pub gap_length : (c : Option Cover) (from to : ℕ) → length (encode_all (gap_forms c from to)) ≡ gap_takes from to
unfolding keep timeline_forms encode_all
gap_length c from to = go (ltb from to)
  where
    gap : Span (Option Shown)
    gap = record { from = from; to = to; body = None }

    form : Form
    form = unknown (record { start = instant_number from; end = instant_number to; coverage = c })

    go : (b : Bool) → length (encode_all (timeline_forms c (cond b (gap ∷ []) []))) ≡ cond b gap_size 0
    go true = ap length (sym (one_form form)) ∙ encode_length form tt
    go false = refl

-- ---- what is told, in parts

abbrev pub walked : Values → ℕ → ℕ → List Form
walked v lo hi = phase_forms (walk_spans v.zone v.governing v.events lo hi)

-- a window cut at coverage's two ends, and the bytes that its walk takes
pub record Cut (v : Values) (start end before lo hi after n : ℕ) : Type 0 where
  pub first_to : before ≡ min end v.coverage.start
  pub walk_from : lo ≡ max start v.coverage.start
  pub walk_to : hi ≡ min end v.coverage.end
  pub last_from : after ≡ max start v.coverage.end
  pub size : n ≡ length (encode_all (walked v lo hi))

pub cut_at : (v : Values) (start end : ℕ) {before lo hi after n : ℕ} → before ≡ min end v.coverage.start → lo ≡ max start v.coverage.start
    → hi ≡ min end v.coverage.end → after ≡ max start v.coverage.end → n ≡ length (encode_all (walked v lo hi)) → Cut v start end before lo hi after n
cut_at v start end a b c d e = record { first_to = a; walk_from = b; walk_to = c; last_from = d; size = e }

module _ {v : Values} (c : Option Interval) {start end before lo hi after n : ℕ} (cut : Cut v start end before lo hi after n) where
  abbrev first : List Form
  first = gap_forms (cover_of c) start before

  abbrev middle : List Form
  middle = walked v lo hi

  abbrev last : List Form
  last = gap_forms (cover_of c) after end

  abbrev in_parts : List Form
  in_parts = first ++ (middle ++ last)

  abbrev pub total : ℕ
  total = gap_takes start before + n + gap_takes after end

  in_three : in_parts ≡ told v c start end
  in_three = rw (cut.first_to, cut.walk_from, cut.walk_to, cut.last_from)

  parts_length : length (encode_all in_parts) ≡ total
  parts_length =
      let x = append_length first (middle ++ last) in
      let y = append_length middle last in
      let f = gap_length (cover_of c) start before in
      let g = gap_length (cover_of c) after end in
      omega (arith, cut.size)

  parts_encoded : encode_all in_parts ≡ encode_all first ++ (encode_all middle ++ encode_all last)
  parts_encoded = encode_append first (middle ++ last) ∙ ap (λ (x : List ℕ). encode_all first ++ x) (encode_append middle last)

  -- there is too little room
  pub told_short : {room : List ℕ} → length room < total → Lent 0 (encode_all (told v c start end)) room room (record { number = 16; length = 0 })
  told_short {room} s = lent_same (lent_short (encode_all in_parts) room refl (omega (arith, parts_length))) refl (ap encode_all in_three)

  -- it is written, each part behind the one before
  module _ {room now : List ℕ} {place : ℕ} (fits : total ≤ length room) (one : Put room 0 (encode_all first) (gap_takes start before) now place) where
    module _ {now2 : List ℕ} {place2 : ℕ} (two : Put now place (encode_all middle) (length (encode_all middle)) now2 place2) where
      pub told_written : {left : List ℕ} {m : ℕ} → Put now2 place2 (encode_all last) (gap_takes after end) left m
          → Lent 0 (encode_all (told v c start end)) room left (record { number = 0; length = m })
      told_written three =
          let long = length (encode_all middle) in
          let rest = also (long + gap_takes after end) two three refl (omega (arith, cut.size, one.behind, one.kept)) in
          let w = also (gap_takes start before + (long + gap_takes after end)) one rest refl (omega (arith, cut.size)) in
          let all = w.same ∙ ap (wrote room 0) (sym parts_encoded) in
          lent_same (lent_written (encode_all in_parts) room refl (omega (arith, parts_length)) all (omega (arith, w.behind, cut.size, parts_length)))
          refl (ap encode_all in_three)

-- ---- a timeline's records

pub merges : (a b : Option Shown) → mark_of (merged_bodies a b) ≡ mark_of a
merges None b = refl
merges (Some a) None = refl
merges (Some a) (Some b) = refl

module _ (c : Option Cover) where
  forms_append : (xs ys : List (Span (Option Shown))) → timeline_forms c (xs ++ ys) ≡ timeline_forms c xs ++ timeline_forms c ys
  unfolding timeline_forms
  forms_append [] ys = refl
  forms_append (s ∷ xs) ys =
      let f = segment_forms c s.from s.to s.body in
      ap (λ (l : List Form). f ++ l) (forms_append xs ys) ∙ sym (append_assoc f (timeline_forms c xs) (timeline_forms c ys))

  forms_keep : (a b : ℕ) (rest : List (Span (Option Shown))) → timeline_forms c (keep a b None rest) ≡ gap_forms c a b ++ timeline_forms c rest
  unfolding timeline_forms keep
  forms_keep a b rest = go (ltb a b)
    where
      gap : Span (Option Shown)
      gap = record { from = a; to = b; body = None }

      go : (q : Bool) → timeline_forms c (cond q (gap ∷ rest) rest) ≡ timeline_forms c (cond q (gap ∷ []) []) ++ timeline_forms c rest
      go true = refl
      go false = refl

  -- those of spans that all show a phase
  forms_phases : (ss : List (Span Shown)) → timeline_forms c (on_spans Some ss) ≡ phase_forms ss
  unfolding timeline_forms phase_forms
  forms_phases [] = refl
  forms_phases (s ∷ ss) = ap (λ (l : List Form). shown_forms s.from s.to s.body ++ l) (forms_phases ss)

-- ---- the walk of a venue shows phases

module _ (z : Zone) (g : ℕ → Option Rule) (es : List Event) where
  abbrev shows_held : Held → Option Shown
  shows_held h = Some (shown z es h)

  two_maps : (ss : List (Span Held)) → on_spans Some (on_spans (shown z es) ss) ≡ on_spans shows_held ss
  two_maps [] = refl
  two_maps (s ∷ ss) = ap (λ (l : List (Span (Option Shown))). record { from = s.from; to = s.to; body = shows_held s.body } ∷ l) (two_maps ss)

  all_phases : (ss : List (Span Held)) → Phases segments None refl (on_spans shows_held ss)
  all_phases [] = tt
  all_phases (s ∷ ss) = ((s.body.phase, (s.body.rule.evidence, refl)), all_phases ss)

  walk_phases : (hi lo : ℕ) → Phases segments None refl (walk (showing z g es) hi turns lo)
  walk_phases hi lo = subst (Phases segments None refl) (walk_map shows_held (venue_by z g) hi turns lo) (all_phases (walk (venue_by z g) hi turns lo))

  walk_joined : (hi lo : ℕ) → joined segments (walk (showing z g es) hi turns lo) ≡ on_spans Some (walk_spans z g es lo hi)
  walk_joined hi lo =
      let ss = walk (venue_by z g) hi turns lo in
      ap (joined segments) (sym (walk_map shows_held (venue_by z g) hi turns lo) ∙ sym (two_maps ss))
      ∙ sym (joined_map Some phases segments (λ a. refl) (λ a b. refl) (on_spans (shown z es) ss))

-- what is told is the timeline
pub told_timeline : (v : Values) (c : Option Interval) (w : Part) → v.coverage.start < v.coverage.end
    → told v c w.start w.end ≡ timeline_forms (cover_of c) (timeline_of v w)
told_timeline v c w h =
    let o = cover_of c in
    let z = v.zone in
    let g = v.governing in
    let es = v.events in
    let lo = max w.start v.coverage.start in
    let hi = min w.end v.coverage.end in
    let until = min w.end v.coverage.start in
    let spans = walk_spans z g es lo hi in
    let last : List (Span (Option Shown)) = keep (max w.start v.coverage.end) w.end None [] in
    sym
    (ap (timeline_forms o)
    (in_parts_law segments None refl merges (showing z g es) v.coverage w h (walk_phases z g es hi lo)
    ∙ ap (λ (ss : List (Span (Option Shown))). keep w.start until None (ss ++ last)) (walk_joined z g es hi lo))
    ∙ forms_keep o w.start until (on_spans Some spans ++ last)
    ∙ ap (λ (fs : List Form). gap_forms o w.start until ++ fs)
    (forms_append o (on_spans Some spans) last ∙ ap (λ (fs : List Form). fs ++ timeline_forms o last) (forms_phases o spans)))
