-- A pass over an accepted book's records, and what it stores. Assumes nothing.
use mathlib.Core.Path.{◌≡◌, refl, sym, ap, ◌∙◌}
use mathlib.Core.Bool.{false, not, cond}
use mathlib.Core.List.{List, [], ◌∷◌}
use Prim.Native.Nat.{ℕ, zero, suc, ◌+◌, ◌-◌, ◌≤◌, ◌<◌}
use native.Mathlib.Nat.{lt_of_not-le}
use native.Mathlib.Decide.{ℕ_discrete, dec_le}
use native.Mathlib.Omega.{arith}
use borrow.Author.Tests.{le-leb, lt-leb, eq-eqb, ne_eqb, ltb-false}
use lib.ListN.{length, set, length-set, length-map}
use lib.Dec.{ltb, eqb}
use mir.Syntax.{w32, w64}
use Rattle.wire.specs.Fields.{wrote}
use Rattle.wire.specs.Signs.{half, meant, turned}
use Rattle.wire.proofs.Signs.{since_meant}
use Rattle.zone.specs.Units.{seconds_instant, SecondsFit, most_offset}
use Rattle.records.specs.Layout.{number, transition_instant, transition_offset, transition_kind, rule_kind, event_kind}
use Rattle.wire.proofs.Writing.{wrote_one, wrote_nothing}
use Rattle.records.specs.Limits.{base}
use Rattle.records.specs.Records.{Record, coverage, transition, rule, event, transition_at, record_at, kind_of}
use Rattle.records.proofs.Tests.{or_false, inside_range}
use Rattle.records.specs.Book.{inside, seconds, offsets, bad_fields, kind_at, next_at, bad_frame, many, most, number_at, number_from, refusal, records_from, records, seconds_before, seconds_after}
use Rattle.records.specs.Frame.{Framed}
use Rattle.records.proofs.Frames.{Kind, one, two, three, four, kind_of_law, framed, is_one, is_two, is_three, is_four}
use Rattle.records.proofs.Cascade.{passed, Passed, passed_all}
use Rattle.records.proofs.Following.{many_moved, many_same, many_other, many_room}
use Rattle.zone.proofs.Domain.{second_meant}
use Rattle.venue.specs.Opening.{offset_of, transitions_of, ats_of, offsets_of, places_from, places, rule_places, event_places}
use Rattle.venue.specs.declared.opened.Counts.{Counts}
use Rattle.venue.specs.Private.{counts_of}

-- ---- the records of an accepted book, one after the other

pub record Ahead (s : List ℕ) (at turns : ℕ) (before : List Record) : Type 0 where
  pub enough : length s ≤ at + turns
  pub inside : at ≤ length s
  pub small : length s ≤ base.bytes
  pub good : number_from base s turns at before ≡ 0

pub ahead_start : (s : List ℕ) → refusal base s ≡ 0 → Ahead s 0 (length s) []
unfolding refusal
ahead_start s e =
    let p = passed (ltb base.bytes (length s)) 1 _ (omega arith) e in
    record { enough = omega arith; inside = omega arith; small = ltb-false _ _ p.0; good = p.1 }

pub record Next (s : List ℕ) (at turns : ℕ) (before : List Record) : Type 0 where
  pub frame : Framed s at
  pub passes : Passed base before (record_at s at)
  pub ahead : Ahead s (next_at s at) turns (record_at s at ∷ before)

pub kind_here : (s : List ℕ) (at : ℕ) → Framed s at → kind_of (record_at s at) ≡ kind_at s at
kind_here s at f = go (kind_of_law s at (kind_at s at) f refl)
  where
    go : Kind (kind_at s at) → kind_of (record_at s at) ≡ kind_at s at
    go (one i) = ap kind_of (is_one s at _ f refl i) ∙ sym i
    go (two i) = ap kind_of (is_two s at _ f refl i) ∙ sym i
    go (three i) = ap kind_of (is_three s at _ f refl i) ∙ sym i
    go (four i) = ap kind_of (is_four s at _ f refl i) ∙ sym i

-- the number of a record of an accepted book is 0
no_number : (n rest : ℕ) → cond (eqb n 0) rest n ≡ 0 → (n ≡ 0) × (rest ≡ 0)
no_number n rest e = go (ℕ_discrete n 0)
  where
    go : Dec (n ≡ 0) → (n ≡ 0) × (rest ≡ 0)
    go (yes z) = (z, simp (eq-eqb n 0 z) at e)
    go (no z) = absurd (z (simp (ne_eqb n 0 z) at e))

pub ahead_next : {s : List ℕ} {at turns : ℕ} {before : List Record} → Ahead s at (suc turns) before → at < length s → Next s at turns before
unfolding number_from number_at
ahead_next {s} {at} {turns} {before} a h =
    let rest = number_from base s turns (next_at s at) (record_at s at ∷ before) in
    let p = no_number (number_at base s at before) rest (simp (lt-leb (length s) at h) at a.good) in
    let q = passed (bad_frame s at) 2 _ (omega arith) p.0 in
    let f = framed s at q.0 in
    record {
      frame = f;
      passes = passed_all base before (record_at s at) q.1;
      ahead =
          record {
            enough = let e = a.enough in let l = f.head in omega arith;
            inside = f.whole;
            small = a.small;
            good = p.1;
          };
    }

pub no_turns : {s : List ℕ} {at : ℕ} {before : List Record} → Ahead s at 0 before → at < length s → ⊥
no_turns a h = let e = a.enough in omega arith

-- what holds behind the last record, and of each if of those behind it, holds of all that are ahead
module _ (s : List ℕ) (P : ℕ → ℕ → List Record → Type 0)
    (behind : (turns at : ℕ) (before : List Record) → length s ≤ at → P turns at before)
    (here : (turns at : ℕ) (before : List Record) → at < length s → Next s at turns before → P turns (next_at s at) (record_at s at ∷ before)
    → P (suc turns) at before) where
  pub by_records : (turns : ℕ) {at : ℕ} {before : List Record} → Ahead s at turns before → P turns at before
  by_records zero {at} {before} a = behind zero at before (let e = a.enough in omega arith)
  by_records (suc g) {at} {before} a = go (λ h. by_records g (ahead_next a h).ahead) (dec_le (length s) at)
    where
      go : (at < length s → P g (next_at s at) (record_at s at ∷ before)) → Dec (length s ≤ at) → P (suc g) at before
      go more (yes h) = behind (suc g) at before h
      go more (no h) = let l = lt_of_not-le h in here g at before l (ahead_next a l) (more l)

-- ---- what is left

module _ (s : List ℕ) (at : ℕ) where
  pub no_records : (turns : ℕ) → length s ≤ at → records_from s turns at ≡ []
  unfolding records_from
  no_records zero h = refl
  no_records (suc turns) h = simp (le-leb (length s) at h)

  pub no_places : (k turns : ℕ) → length s ≤ at → places_from k s turns at ≡ []
  unfolding places_from
  no_places k zero h = refl
  no_places k (suc turns) h = simp (le-leb (length s) at h)

  module _ (turns : ℕ) (h : at < length s) where
    pub one_record : records_from s (suc turns) at ≡ record_at s at ∷ records_from s turns (next_at s at)
    unfolding records_from
    one_record = simp (lt-leb (length s) at h)

    pub one_place : (k : ℕ) → kind_at s at ≡ k → places_from k s (suc turns) at ≡ at ∷ places_from k s turns (next_at s at)
    unfolding places_from
    one_place k e = simp (lt-leb (length s) at h, eq-eqb (kind_at s at) k e)

    pub no_place : (k : ℕ) → (kind_at s at ≡ k → ⊥) → places_from k s (suc turns) at ≡ places_from k s turns (next_at s at)
    unfolding places_from
    no_place k e = simp (lt-leb (length s) at h, ne_eqb (kind_at s at) k e)

    module _ (f : Framed s at) (k : ℕ) where
      pub one_many : kind_at s at ≡ k → many k (records_from s (suc turns) at) ≡ suc (many k (records_from s turns (next_at s at)))
      one_many e = ap (many k) one_record ∙ many_same k (record_at s at) (records_from s turns (next_at s at)) (kind_here s at f ∙ e)

      pub no_many : (kind_at s at ≡ k → ⊥) → many k (records_from s (suc turns) at) ≡ many k (records_from s turns (next_at s at))
      no_many e = ap (many k) one_record ∙ many_other k (record_at s at) (records_from s turns (next_at s at)) (λ q. e (sym (kind_here s at f) ∙ q))

-- as many places as records of the kind
abbrev AsMany : (k : ℕ) (s : List ℕ) (turns at : ℕ) → Type 0
AsMany k s turns at = length (places_from k s turns at) ≡ many k (records_from s turns at)

pub places_many : (k : ℕ) {s : List ℕ} (turns : ℕ) {at : ℕ} {before : List Record} → Ahead s at turns before → AsMany k s turns at
places_many k {s} =
    by_records s (λ (turns at : ℕ) (before : List Record). AsMany k s turns at)
    (λ turns at before h. ap length (no_places s at k turns h) ∙ sym (ap (many k) (no_records s at turns h)))
    (λ g at before h n more. one g at h n.frame more (ℕ_discrete (kind_at s at) k))
  where
    one : (g at : ℕ) → at < length s → Framed s at → AsMany k s g (next_at s at) → Dec (kind_at s at ≡ k) → AsMany k s (suc g) at
    one g at h f more (yes e) = ap length (one_place s at g h k e) ∙ ap suc more ∙ sym (one_many s at g h f k e)
    one g at h f more (no e) = ap length (no_place s at g h k e) ∙ more ∙ sym (no_many s at g h f k e)

-- no more than the limit
abbrev Few : (k : ℕ) (s : List ℕ) (turns at : ℕ) (before : List Record) → Type 0
Few k s turns at before = many k before ≤ most base k → many k before + many k (records_from s turns at) ≤ most base k

few_left : (k : ℕ) {s : List ℕ} (turns : ℕ) {at : ℕ} {before : List Record} → Ahead s at turns before → Few k s turns at before
few_left k {s} =
    by_records s (Few k s)
    (λ turns at before h l. let e = ap (many k) (no_records s at turns h) in omega arith)
    (λ g at before h n more l. let e = ap (many k) (one_record s at g h) in
    let m = many_moved k (record_at s at) before (records_from s g (next_at s at)) in
    omega (arith, more (many_room base k before (record_at s at) n.passes.few l)))

pub few_records : (k : ℕ) (s : List ℕ) → refusal base s ≡ 0 → many k (records s) ≤ most base k
unfolding records
few_records k s e = let h = few_left k (length s) (ahead_start s e) (omega arith) in omega arith

-- as many transitions as records of kind 2
pub transitions_many : (rs : List Record) → length (transitions_of rs) ≡ many transition_kind rs
unfolding transitions_of
transitions_many [] = refl
transitions_many (coverage c ∷ rs) = transitions_many rs
transitions_many (transition t ∷ rs) = ap suc (transitions_many rs)
transitions_many (rule r ∷ rs) = transitions_many rs
transitions_many (event e ∷ rs) = transitions_many rs

-- ---- storing one number after the other

-- vs are still to be stored, from place n on
pub record Storing (room now : List ℕ) (n : ℕ) (all vs : List ℕ) : Type 0 where
  pub same : wrote room 0 all ≡ wrote now n vs
  pub fits : n + length vs ≤ length now
  pub kept : length now ≡ length room

pub storing_start : (room all : List ℕ) → length all ≤ length room → Storing room room 0 all all
storing_start room all h = record { same = refl; fits = omega arith; kept = refl }

pub storing_one : {room now all : List ℕ} {n : ℕ} (v : ℕ) (vs : List ℕ) → Storing room now n all (v ∷ vs)
    → Storing room (set now n v) (n + 1) all vs
storing_one {room} {now} {all} {n} v vs p =
    let l = length-set now n v in
    let f : n + suc (length vs) ≤ length now = p.fits in
    record { same = p.same ∙ wrote_one now n v vs (omega arith); fits = omega arith; kept = omega (arith, p.kept) }

pub storing_end : {room now all : List ℕ} {n : ℕ} → Storing room now n all [] → now ≡ wrote room 0 all
storing_end {room} {now} {all} {n} p = sym (p.same ∙ wrote_nothing now n)

-- ---- the places of a kind

-- n records of kind k stand before `at`, and those from there on are still to be stored
pub record Placing (k : ℕ) (s room now : List ℕ) (turns at n : ℕ) : Type 0 where
  pub total : n + many k (records_from s turns at) ≡ many k (records s)
  pub storing : Storing room now n (places k s) (places_from k s turns at)

place_start : (k : ℕ) (s room : List ℕ) → refusal base s ≡ 0 → most base k ≤ length room → Placing k s room room (length s) 0 0
unfolding records
place_start k s room e l =
    let m = places_many k (length s) (ahead_start s e) in
    record { total = omega arith; storing = storing_start room (places k s) (omega (arith, few_records k s e)) }

module _ {k : ℕ} {s room now : List ℕ} {g at n : ℕ} (h : at < length s) (f : Framed s at) (p : Placing k s room now (suc g) at n) where
  place_room : kind_at s at ≡ k → n < length now
  place_room e = let l = ap length (one_place s at g h k e) in let r = p.storing.fits in omega arith

  place_one : kind_at s at ≡ k → Placing k s room (set now n at) g (next_at s at) (n + 1)
  place_one e =
      let m = one_many s at g h f k e in
      let t = p.total in
      record { total = omega arith; storing = storing_one at _ (rw (one_place s at g h k e) at p.storing) }

  place_none : (kind_at s at ≡ k → ⊥) → Placing k s room now g (next_at s at) n
  place_none e =
      let m = no_many s at g h f k e in
      let t = p.total in
      record { total = omega arith; storing = rw (no_place s at g h k e) at p.storing }

place_end : {k : ℕ} {s room now : List ℕ} {turns at n : ℕ} → Placing k s room now turns at n → length s ≤ at
    → (n ≡ many k (records s)) × (now ≡ wrote room 0 (places k s))
place_end {k} {s} {room} {now} {turns} {at} p h =
    let m = ap (many k) (no_records s at turns h) in
    let t = p.total in
    (omega arith, storing_end (rw (no_places s at k turns h) at p.storing))

-- ---- the clock changes

module _ (s : List ℕ) (at turns : ℕ) (h : at < length s) (f : Framed s at) where
  abbrev rest : List Record
  rest = records_from s turns (next_at s at)

  one_change : kind_at s at ≡ transition_kind → transitions_of (records_from s (suc turns) at) ≡ transition_at s at ∷ transitions_of rest
  unfolding transitions_of
  one_change e = ap transitions_of (one_record s at turns h) ∙ rw (is_two s at (kind_at s at) f refl e)

  no_change : (kind_at s at ≡ transition_kind → ⊥) → transitions_of (records_from s (suc turns) at) ≡ transitions_of rest
  unfolding transitions_of
  no_change n = ap transitions_of (one_record s at turns h) ∙ go (kind_of_law s at (kind_at s at) f refl)
    where
      go : Kind (kind_at s at) → transitions_of (record_at s at ∷ rest) ≡ transitions_of rest
      go (one i) = rw (is_one s at (kind_at s at) f refl i)
      go (two i) = absurd (n i)
      go (three i) = rw (is_three s at (kind_at s at) f refl i)
      go (four i) = rw (is_four s at (kind_at s at) f refl i)

-- a clock change's fields are in their ranges
pub record Ranged (s : List ℕ) (at : ℕ) : Type 0 where
  pub at_low : half w64 - seconds_before ≤ turned w64 (number transition_instant s at)
  pub at_high : turned w64 (number transition_instant s at) ≤ half w64 + seconds_after
  pub offset_low : half w32 - most_offset ≤ turned w32 (number transition_offset s at)

pub ranged : (s : List ℕ) (at : ℕ) (before : List Record) → Framed s at → kind_at s at ≡ transition_kind → Passed base before (record_at s at) → Ranged s at
unfolding bad_fields meant
ranged s at before f e p =
    let z : bad_fields base (transition (transition_at s at)) ≡ false =
    ap (bad_fields base) (sym (is_two s at (kind_at s at) f refl e)) ∙ (or_false (bad_fields base (record_at s at)) _ p.fields).0 in
    let o = or_false (not (inside seconds (transition_at s at).at)) (not (inside offsets (transition_at s at).offset)) z in
    let a = inside_range w64 (half w64 - seconds_before) (half w64 + seconds_after) (turned w64 (number transition_instant s at)) o.0 in
    let b = inside_range w32 (half w32 - most_offset) (half w32 + most_offset) (turned w32 (number transition_offset s at)) o.1 in
    record { at_low = a.0; at_high = a.1; offset_low = b.0 }

-- and so are kept as they are meant
module _ {s : List ℕ} {at : ℕ} (r : Ranged s at) where
  pub instant_fits : {p : ℕ} → p ≡ turned w64 (number transition_instant s at) → SecondsFit p
  instant_fits {p} e = (omega (arith, e, r.at_low), omega (arith, second_meant p, r.at_high))

  pub instant_kept : {p a : ℕ} → p ≡ turned w64 (number transition_instant s at) → a ≡ seconds_instant (meant w64 p)
      → a ≡ seconds_instant (transition_at s at).at
  instant_kept e i = i ∙ ap (λ (x : ℕ). seconds_instant (meant w64 x)) e

  pub offset_kept : (q : ℕ) → q ≡ turned w32 (number transition_offset s at) → q - (half w32 - most_offset) ≡ offset_of (transition_at s at).offset
  offset_kept q e =
      ap (λ (i : ℕ). i - (half w32 - most_offset)) e
      ∙ sym (since_meant w32 most_offset (turned w32 (number transition_offset s at)) (omega arith))

-- n clock changes stand before `at`, and those from there on are still to be stored
pub record Changing (s ats ats' offsets offsets' : List ℕ) (turns at n : ℕ) : Type 0 where
  pub total : n + many transition_kind (records_from s turns at) ≡ many transition_kind (records s)
  pub to_ats : Storing ats ats' n (ats_of (records s)) (ats_of (records_from s turns at))
  pub to_offsets : Storing offsets offsets' n (offsets_of (records s)) (offsets_of (records_from s turns at))

pub ats_many : (rs : List Record) → length (ats_of rs) ≡ many transition_kind rs
ats_many rs = length-map (transitions_of rs) _ ∙ transitions_many rs

pub offsets_many : (rs : List Record) → length (offsets_of rs) ≡ many transition_kind rs
offsets_many rs = length-map (transitions_of rs) _ ∙ transitions_many rs

change_start : (s ats offsets : List ℕ) → refusal base s ≡ 0 → base.transitions ≤ length ats → base.transitions ≤ length offsets
    → Changing s ats ats offsets offsets (length s) 0 0
unfolding records
change_start s ats offsets e l m =
    let f = few_records transition_kind s e in
    record {
      total = omega arith;
      to_ats = storing_start ats (ats_of (records s)) (omega (arith, ats_many (records s)));
      to_offsets = storing_start offsets (offsets_of (records s)) (omega (arith, offsets_many (records s)));
    }

module _ {s ats ats' offsets offsets' : List ℕ} {g at n : ℕ} (h : at < length s) (f : Framed s at)
    (p : Changing s ats ats' offsets offsets' (suc g) at n) where
  change_room : kind_at s at ≡ transition_kind → (n < length ats') × (n < length offsets')
  change_room e =
      let o = one_many s at g h f 2 e in
      let l = ats_many (records_from s (suc g) at) in
      let m = offsets_many (records_from s (suc g) at) in
      let a = p.to_ats.fits in
      let b = p.to_offsets.fits in
      (omega arith, omega arith)

  change_one : kind_at s at ≡ transition_kind
      → let t = transition_at s at in
      Changing s ats (set ats' n (seconds_instant t.at)) offsets (set offsets' n (offset_of t.offset)) g (next_at s at) (n + 1)
  change_one e =
      let o = one_many s at g h f 2 e in
      let t = p.total in
      let z = one_change s at g h f e in
      record {
        total = omega arith;
        to_ats = storing_one _ _ (rw z at p.to_ats);
        to_offsets = storing_one _ _ (rw z at p.to_offsets);
      }

  change_none : (kind_at s at ≡ transition_kind → ⊥) → Changing s ats ats' offsets offsets' g (next_at s at) n
  change_none e =
      let o = no_many s at g h f 2 e in
      let t = p.total in
      let z = no_change s at g h f e in
      record { total = omega arith; to_ats = rw z at p.to_ats; to_offsets = rw z at p.to_offsets }

change_end : {s ats ats' offsets offsets' : List ℕ} {turns at n : ℕ} → Changing s ats ats' offsets offsets' turns at n → length s ≤ at
    → (n ≡ many transition_kind (records s)) × (ats' ≡ wrote ats 0 (ats_of (records s))) × (offsets' ≡ wrote offsets 0 (offsets_of (records s)))
unfolding transitions_of
change_end {s} {ats} {ats'} {offsets} {offsets'} {turns} {at} p h =
    let z = no_records s at turns h in
    let m = ap (many transition_kind) z in
    let t = p.total in
    (omega arith, storing_end (rw z at p.to_ats), storing_end (rw z at p.to_offsets))

-- ---- all of them in one pass

pub record Passing (s ats ats' offsets offsets' rules rules' events events' : List ℕ) (at change rule event : ℕ) : Type 0 where
  pub turns : ℕ
  pub before : List Record
  pub ahead : Ahead s at turns before
  pub changing : Changing s ats ats' offsets offsets' turns at change
  pub ruling : Placing rule_kind s rules rules' turns at rule
  pub eventing : Placing event_kind s events events' turns at event

pub pass_start : (s ats offsets rules events : List ℕ) → refusal base s ≡ 0
    → base.transitions ≤ length ats → base.transitions ≤ length offsets → base.rules ≤ length rules → base.events ≤ length events
    → Passing s ats ats offsets offsets rules rules events events 0 0 0 0
pass_start s ats offsets rules events e a o r v =
    record {
      turns = length s;
      before = [];
      ahead = ahead_start s e;
      changing = change_start s ats offsets e a o;
      ruling = place_start rule_kind s rules e r;
      eventing = place_start event_kind s events e v;
    }

-- what holds where a record stands
pub record Standing (s ats ats' offsets offsets' rules rules' events events' : List ℕ) (at change rule event : ℕ) : Type 0 where
  pub turns : ℕ
  pub before : List Record
  pub next : Next s at turns before
  pub inside : at < length s
  pub small : length s ≤ base.bytes
  pub changing : Changing s ats ats' offsets offsets' (suc turns) at change
  pub ruling : Placing rule_kind s rules rules' (suc turns) at rule
  pub eventing : Placing event_kind s events events' (suc turns) at event

module _ {s ats ats' offsets offsets' rules rules' events events' : List ℕ} {at change rule event : ℕ} where
  stand_by : (turns : ℕ) {before : List Record} → Ahead s at turns before → at < length s
      → Changing s ats ats' offsets offsets' turns at change
      → Placing rule_kind s rules rules' turns at rule → Placing event_kind s events events' turns at event
      → Standing s ats ats' offsets offsets' rules rules' events events' at change rule event
  stand_by zero a h c r e = absurd (no_turns a h)
  stand_by (suc g) a h c r e =
      record { turns = g; before = _; next = ahead_next a h; inside = h; small = a.small; changing = c; ruling = r; eventing = e }

  pub standing : Passing s ats ats' offsets offsets' rules rules' events events' at change rule event → at < length s
      → Standing s ats ats' offsets offsets' rules rules' events events' at change rule event
  standing p h = stand_by p.turns p.ahead h p.changing p.ruling p.eventing

  module _ (p : Standing s ats ats' offsets offsets' rules rules' events events' at change rule event) where
    abbrev pub frame : Framed s at
    frame = p.next.frame

    pub range : kind_at s at ≡ transition_kind → Ranged s at
    range e = ranged s at p.before frame e p.next.passes

    pub room_change : kind_at s at ≡ transition_kind → (change < length ats') × (change < length offsets')
    room_change e = change_room p.inside frame p.changing e

    pub room_rule : kind_at s at ≡ rule_kind → rule < length rules'
    room_rule e = place_room p.inside frame p.ruling e

    pub room_event : kind_at s at ≡ event_kind → event < length events'
    room_event e = place_room p.inside frame p.eventing e

    skip_change : (kind_at s at ≡ transition_kind → ⊥) → Changing s ats ats' offsets offsets' p.turns (next_at s at) change
    skip_change = change_none p.inside frame p.changing

    skip_rule : (kind_at s at ≡ rule_kind → ⊥) → Placing rule_kind s rules rules' p.turns (next_at s at) rule
    skip_rule = place_none p.inside frame p.ruling

    skip_event : (kind_at s at ≡ event_kind → ⊥) → Placing event_kind s events events' p.turns (next_at s at) event
    skip_event = place_none p.inside frame p.eventing

    -- behind a record, by what was stored of it
    module _ {next : ℕ} (to : next ≡ next_at s at) where
      pass : {ats'' offsets'' rules'' events'' : List ℕ} {c r e : ℕ} → Changing s ats ats'' offsets offsets'' p.turns (next_at s at) c
          → Placing rule_kind s rules rules'' p.turns (next_at s at) r → Placing event_kind s events events'' p.turns (next_at s at) e
          → Passing s ats ats'' offsets offsets'' rules rules'' events events'' next c r e
      pass x y z =
          let before = record_at s at ∷ p.before in
          rw to (record { turns = p.turns; before = before; ahead = p.next.ahead; changing = x; ruling = y; eventing = z })

      pub pass_change : kind_at s at ≡ transition_kind → {a o : ℕ} → a ≡ seconds_instant (transition_at s at).at → o ≡ offset_of (transition_at s at).offset
          → Passing s ats (set ats' change a) offsets (set offsets' change o) rules rules' events events' next (change + 1) rule event
      pass_change e a o =
          rw (a, o) (pass (change_one p.inside frame p.changing e) (skip_rule (λ q. omega arith)) (skip_event (λ q. omega arith)))

      pub pass_rule : kind_at s at ≡ rule_kind
          → Passing s ats ats' offsets offsets' rules (set rules' rule at) events events' next change (rule + 1) event
      pass_rule e = pass (skip_change (λ q. omega arith)) (place_one p.inside frame p.ruling e) (skip_event (λ q. omega arith))

      pub pass_event : kind_at s at ≡ event_kind
          → Passing s ats ats' offsets offsets' rules rules' events (set events' event at) next change rule (event + 1)
      pass_event e = pass (skip_change (λ q. omega arith)) (skip_rule (λ q. omega arith)) (place_one p.inside frame p.eventing e)

      pub pass_other : (kind_at s at ≡ transition_kind → ⊥) → (kind_at s at ≡ rule_kind → ⊥) → (kind_at s at ≡ event_kind → ⊥)
          → Passing s ats ats' offsets offsets' rules rules' events events' next change rule event
      pass_other a b c = pass (skip_change a) (skip_rule b) (skip_event c)

  -- behind the last record
  pub pass_end : Passing s ats ats' offsets offsets' rules rules' events events' at change rule event → length s ≤ at
      → (◌≡◌ {A = Counts} (record { transitions = change; rules = rule; events = event }) (counts_of (records s)))
      × (ats' ≡ wrote ats 0 (ats_of (records s)))
      × (offsets' ≡ wrote offsets 0 (offsets_of (records s)))
      × (rules' ≡ wrote rules 0 (rule_places s))
      × (events' ≡ wrote events 0 (event_places s))
  pass_end p h =
      let c = change_end p.changing h in
      let r = place_end p.ruling h in
      let e = place_end p.eventing h in
      (rw (c.0, r.0, e.0), c.1, c.2, r.1, e.1)
