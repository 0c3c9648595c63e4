-- What an accepted book lists, for those who read it: places, rules, events, header and clock changes. Assumes nothing.
use mathlib.Core.Path.{◌≡◌, refl, sym, ap, ◌∙◌}
use mathlib.Core.List.{List, [], ◌∷◌, map}
use Rattle.std.specs.Prelude.{Some}
use Prim.Native.Nat.{ℕ, zero, suc, ◌≤◌, ◌<◌}
use native.Mathlib.Nat.{le_of_suc-le-suc}
use native.Mathlib.Decide.{ℕ_discrete}
use native.Mathlib.Omega.{arith}
use lib.ListN.{length, get_or}
use Rattle.zone.specs.Answers.{Valid}
use Rattle.records.specs.Limits.{base}
use Rattle.records.specs.Records.{Coverage, Record, coverage_at, rule_at, event_at, record_at}
use Rattle.records.specs.Book.{kind_at, next_at, many, refusal, records_from, records}
use Rattle.records.specs.Frame.{Framed}
use Rattle.records.proofs.Frames.{Kind, one, two, three, four, kind_of_law, is_one, is_two, is_three, is_four}
use Rattle.records.specs.Layout.{rule_kind, event_kind}
use Rattle.venue.specs.Opening.{offset_of, coverage_of, rules_of, events_of, ats_of, offsets_of, places_from, places, rule_places, event_places}
use Rattle.venue.proofs.Passing.{Ahead, Next, ahead_start, by_records, no_records, no_places, one_record, one_place, no_place, places_many, few_records}
use Rattle.venue.specs.Reading.{Listed, AllListed, GoodCoverage, GoodRule, GoodEvent, ListedRule, ListedEvent}
use Rattle.venue.proofs.Listing.{day_value, rule_fields, rule_each, rule_rises, event_fields, event_each}
use Rattle.venue.proofs.Headers.{head}
use Rattle.venue.proofs.Changes.{Chain, covers_good, changes_valid}

-- ---- a rule or event that is listed is good

pub good_rule : (s : List ℕ) (p : ℕ) → ListedRule s p → GoodRule (rule_at s p)
good_rule s p l =
    let f = rule_fields l in
    let d = f.dates_in in
    let a = day_value _ d.first_low in
    let b = day_value _ d.last_low in
    record {
      first_low = omega (arith, a, d.first_low);
      order = omega (arith, a, b, d.order);
      last_high = omega (arith, b, d.last_high);
      code = f.code;
      mask = f.mask;
      from_midnight = rule_rises l;
      each = rule_each l;
      few = f.few;
    }

pub good_event : (s : List ℕ) (p : ℕ) → ListedEvent s p → GoodEvent (event_at s p)
good_event s p l =
    let f = event_fields l in
    let d = f.dates_in in
    let a = day_value _ d.first_low in
    let b = day_value _ d.last_low in
    record {
      first_low = omega (arith, a, d.first_low);
      order = omega (arith, a, b, d.order);
      last_high = omega (arith, b, d.last_high);
      each = event_each l;
      few = f.few;
    }

-- ---- every place that opening stores is listed

listed_here : {k : ℕ} {s : List ℕ} {at turns : ℕ} {before : List Record} → Next s at turns before → kind_at s at ≡ k → Listed k s at
listed_here n e =
    let p = n.passes in
    record {
      small = n.ahead.small;
      frame = n.frame;
      kind = e;
      within = p.fields;
      prompt = p.prompt;
      rising = p.rising;
      forward = p.forward;
    }

-- each of a list, one after the other
abbrev EachListed : ℕ → List ℕ → List ℕ → Type 0
EachListed k s [] = Unit {0}
EachListed k s (p ∷ ps) = Listed k s p × EachListed k s ps

listed_from : (k : ℕ) {s : List ℕ} (turns : ℕ) {at : ℕ} {before : List Record} → Ahead s at turns before
    → EachListed k s (places_from k s turns at)
listed_from k {s} =
    by_records s (λ (turns at : ℕ) (before : List Record). EachListed k s (places_from k s turns at))
    (λ turns at before h. rw (no_places s at k turns h) tt)
    (λ g at before h n more. one g at h n more (ℕ_discrete (kind_at s at) k))
  where
    one : (g at : ℕ) (h : at < length s) {before : List Record} → Next s at g before → EachListed k s (places_from k s g (next_at s at))
        → Dec (kind_at s at ≡ k)
        → EachListed k s (places_from k s (suc g) at)
    one g at h n more (yes e) = rw (one_place s at g h k e) (listed_here n e, more)
    one g at h n more (no e) = rw (no_place s at g h k e) more

one_of : (k : ℕ) (s ps : List ℕ) → EachListed k s ps → (i : ℕ) → i < length ps → Listed k s (get_or ps i 0)
one_of k s [] a i h = absurd (omega arith)
one_of k s (p ∷ ps) a zero h = a.0
one_of k s (p ∷ ps) a (suc i) h = one_of k s ps a.1 i (le_of_suc-le-suc h)

pub places_listed : (k : ℕ) (s : List ℕ) → refusal base s ≡ 0 → AllListed k s (places k s)
places_listed k s e i h = one_of k s (places k s) (listed_from k (length s) (ahead_start s e)) i h

-- ---- in the listed order

-- what a list of records holds of kind k is read at their places
module _ {A : Type 0} (k : ℕ) (s : List ℕ) (read : ℕ → A) (of : List Record → List A)
    (none_of : of [] ≡ [])
    (one-of-kind : (at : ℕ) (rs : List Record) → Framed s at → kind_at s at ≡ k → of (record_at s at ∷ rs) ≡ read at ∷ of rs)
    (one-of-other : (at : ℕ) (rs : List Record) → Framed s at → (kind_at s at ≡ k → ⊥) → of (record_at s at ∷ rs) ≡ of rs)
  where
    abbrev ReadSo : (turns at : ℕ) → Type 0
    ReadSo turns at = map read (places_from k s turns at) ≡ of (records_from s turns at)

    in_order_law : (turns : ℕ) {at : ℕ} {before : List Record} → Ahead s at turns before → ReadSo turns at
    in_order_law =
        by_records s (λ (turns at : ℕ) (before : List Record). ReadSo turns at)
        (λ turns at before h. ap (map read) (no_places s at k turns h) ∙ sym (ap of (no_records s at turns h) ∙ none_of))
        (λ g at before h n more. one g at h n.frame more (ℕ_discrete (kind_at s at) k))
      where
        one : (g at : ℕ) → at < length s → Framed s at → ReadSo g (next_at s at) → Dec (kind_at s at ≡ k) → ReadSo (suc g) at
        one g at h f more (yes e) =
            ap (map read) (one_place s at g h k e) ∙ ap (◌∷◌ (read at)) more
            ∙ sym (ap of (one_record s at g h) ∙ one-of-kind at (records_from s g (next_at s at)) f e)
        one g at h f more (no e) =
            ap (map read) (no_place s at g h k e) ∙ more
            ∙ sym (ap of (one_record s at g h) ∙ one-of-other at (records_from s g (next_at s at)) f e)

module _ (s : List ℕ) (at : ℕ) (rs : List Record) (f : Framed s at) where
  abbrev kind_here_is : Kind (kind_at s at)
  kind_here_is = kind_of_law s at (kind_at s at) f refl

  one_rule : kind_at s at ≡ rule_kind → rules_of (record_at s at ∷ rs) ≡ rule_at s at ∷ rules_of rs
  unfolding rules_of
  one_rule e = rw (is_three s at (kind_at s at) f refl e)

  no_rule : (kind_at s at ≡ rule_kind → ⊥) → rules_of (record_at s at ∷ rs) ≡ rules_of rs
  unfolding rules_of
  no_rule n = go kind_here_is
    where
      go : Kind (kind_at s at) → rules_of (record_at s at ∷ rs) ≡ rules_of rs
      go (one i) = rw (is_one s at (kind_at s at) f refl i)
      go (two i) = rw (is_two s at (kind_at s at) f refl i)
      go (three i) = absurd (n i)
      go (four i) = rw (is_four s at (kind_at s at) f refl i)

  one_event : kind_at s at ≡ event_kind → events_of (record_at s at ∷ rs) ≡ event_at s at ∷ events_of rs
  unfolding events_of
  one_event e = rw (is_four s at (kind_at s at) f refl e)

  no_event : (kind_at s at ≡ event_kind → ⊥) → events_of (record_at s at ∷ rs) ≡ events_of rs
  unfolding events_of
  no_event n = go kind_here_is
    where
      go : Kind (kind_at s at) → events_of (record_at s at ∷ rs) ≡ events_of rs
      go (one i) = rw (is_one s at (kind_at s at) f refl i)
      go (two i) = rw (is_two s at (kind_at s at) f refl i)
      go (three i) = rw (is_three s at (kind_at s at) f refl i)
      go (four i) = absurd (n i)

pub rules_listed : (s : List ℕ) → refusal base s ≡ 0 → map (rule_at s) (rule_places s) ≡ rules_of (records s)
unfolding records rules_of
rules_listed s e = in_order_law rule_kind s (rule_at s) rules_of refl (one_rule s) (no_rule s) (length s) (ahead_start s e)

pub events_listed : (s : List ℕ) → refusal base s ≡ 0 → map (event_at s) (event_places s) ≡ events_of (records s)
unfolding records events_of
events_listed s e = in_order_law event_kind s (event_at s) events_of refl (one_event s) (no_event s) (length s) (ahead_start s e)

-- ---- how many there are

pub rules_count : (s : List ℕ) → refusal base s ≡ 0 → (length (rule_places s) ≡ many rule_kind (records s)) × (many rule_kind (records s) ≤ base.rules)
unfolding records
rules_count s e = (places_many rule_kind (length s) (ahead_start s e), few_records rule_kind s e)

pub events_count : (s : List ℕ) → refusal base s ≡ 0 → (length (event_places s) ≡ many event_kind (records s)) × (many event_kind (records s) ≤ base.events)
unfolding records
events_count s e = (places_many event_kind (length s) (ahead_start s e), few_records event_kind s e)

-- ---- the header and the clock changes

chain : (s : List ℕ) → refusal base s ≡ 0 → Chain [] (records s)
unfolding records
chain s e =
    by_records s (λ (turns at : ℕ) (before : List Record). Chain before (records_from s turns at))
    (λ turns at before h. rw (no_records s at turns h) tt)
    (λ g at before h n more. rw (one_record s at g h) (n.passes, more))
    (length s) (ahead_start s e)

pub good_coverage : (s : List ℕ) → refusal base s ≡ 0 → (c : Coverage) → coverage_of (records s) ≡ Some c → GoodCoverage c
good_coverage s e c q = covers_good (records s) (chain s e) c q

-- its clock changes are a zone's
pub zone_valid : (s : List ℕ) → refusal base s ≡ 0 → (c : Coverage) → coverage_of (records s) ≡ Some c
    → Valid (offset_of c.offset) (ats_of (records s)) (offsets_of (records s))
zone_valid s e c q = changes_valid (records s) (chain s e) c q

-- a book that is accepted and not empty begins with its coverage
pub covered : (s : List ℕ) → refusal base s ≡ 0 → (length s ≡ 0 → ⊥) → coverage_of (records s) ≡ Some (coverage_at s 0)
covered s e n = (head s e n).is
