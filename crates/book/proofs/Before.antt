-- The walk over a book's records: what holds where a record begins, and what its tests lead to. Assumes nothing.
use mathlib.Core.Path.{◌≡◌, refl, sym, ap, ap₂, ◌∙◌}
use mathlib.Core.Bool.{Bool, true, false, not, ◌&&◌, ◌||◌}
use mathlib.Core.List.{List, [], ◌∷◌}
use Rattle.std.specs.Prelude.{Option, None, Some}
use Prim.Native.Nat.{ℕ, zero, suc, ◌+◌, ◌-◌, ◌≤◌, ◌<◌}
use native.Mathlib.Omega.{arith}
use borrow.Author.Tests.{lt-ltb, le-ltb, lt-leb, ne_eqb, ltb-false, leb-false, le-leb, eqb-true, not-false}
use lib.ListN.{length}
use lib.Dec.{ltb, leb, eqb}
use lib.IntN.{ℤ, pos, ◌+ℤ◌}
use lib.Signed.{lt_z}
use mir.Syntax.{w64}
use Rattle.wire.specs.Signs.{half, meant, turned}
use Rattle.wire.proofs.Signs.{order_lt, meant_sum}
use Rattle.book.specs.declared.judge.Seen.{Seen}
use Rattle.zone.specs.Units.{spacing}
use Rattle.records.specs.Layout.{number, time, step, transition_instant, coverage_kind, transition_kind, rule_kind, event_kind, is_rule}
use Rattle.records.specs.Limits.{base}
use Rattle.records.specs.Records.{Coverage, Transition, Rule, Event, Record, coverage, transition, rule, event, coverage_at, transition_at, rule_at, event_at, record_at, kind_of}
use Rattle.records.specs.Book.{inside, seconds, kind_at, next_at, bad_frame, headless, many, most, too_many, bad_fields, bad_items, outside, late_start, falling, reversed, covers_nothing, last_instant, closer, too_close, number_of, number_at, number_from, refusal, seconds_before, seconds_after}
use Rattle.records.specs.Frame.{Framed, items_at}
use Rattle.book.specs.Private.{bad_item, bad_from, Room, seen, one_more}
use Rattle.records.proofs.Tests.{or_false, outside_test}
use Rattle.records.proofs.Frames.{Kind, one, two, three, four, kind_of_law, framed, few_items, is_one, is_two, is_three, is_four}
use Rattle.book.proofs.Judging.{never_late, never_reversed, no_coverage}
use Rattle.book.proofs.Items.{Looked, looked_none, looked_bad, looked_good, looked_all, looked_falls, items_bad, items_fall}
use Rattle.records.proofs.Cascade.{all_passed, number_2, number_3, number_4, number_5, number_6, number_7, number_8, number_9}

-- ---- the records before, as the code keeps them

-- m is the earliest second that a transition may have, placed
abbrev pub Least : Option ℤ → ℕ → Type 0
Least None m = m ≡ 0
Least (Some z) m = (p : ℕ) × (z ≡ meant w64 p) × (m ≡ p + spacing)

pub record Counts (t : Seen) (before : List Record) : Type 0 where
  pub coverages : t.coverages ≡ many coverage_kind before
  pub transitions : t.transitions ≡ many transition_kind before
  pub rules : t.rules ≡ many rule_kind before
  pub events : t.events ≡ many event_kind before
  pub coverages_few : t.coverages ≤ 1
  pub transitions_few : t.transitions ≤ base.transitions
  pub rules_few : t.rules ≤ base.rules
  pub events_few : t.events ≤ base.events
  pub headed : many coverage_kind before ≡ 0 → before ≡ []
  pub least : Least (last_instant before) t.least

counted : (t : Seen) (before : List Record) → Counts t before → (k : ℕ) → Kind k → seen k t ≡ many k before
counted t before c k (one i) = rw i c.coverages
counted t before c k (two i) = rw i c.transitions
counted t before c k (three i) = rw i c.rules
counted t before c k (four i) = rw i c.events

-- ---- one record more

module _ {t : Seen} {before : List Record} (c : Counts t before) where
  -- a book that begins with another record than kind 1 is refused
  not_first : (r : Record) → headless before r ≡ false → (kind_of r ≡ coverage_kind → ⊥) → many coverage_kind before ≡ 0 → ⊥
  not_first r h n z = go before (c.headed z) h
    where
      go : (bs : List Record) → bs ≡ [] → headless bs r ≡ false → ⊥
      go [] e q = n (eqb-true (kind_of r) coverage_kind (not-false (eqb (kind_of r) coverage_kind) q))
      go (b ∷ bs) e q = let y : ◌≡◌ {A = ℕ} 0 1 = cc in omega arith

  more_1 : (v : Coverage) → many coverage_kind before < 1
      → Counts (record { coverages = t.coverages + 1; transitions = t.transitions; rules = t.rules; events = t.events; least = t.least }) (coverage v ∷ before)
  more_1 v h =
      record {
        coverages = let e = c.coverages in omega arith;
        transitions = c.transitions;
        rules = c.rules;
        events = c.events;
        coverages_few = let e = c.coverages in omega arith;
        transitions_few = c.transitions_few;
        rules_few = c.rules_few;
        events_few = c.events_few;
        headed = λ e. absurd (omega arith);
        least = c.least;
      }

  more_2 : (v : Transition) (p : ℕ) → v.at ≡ meant w64 p → (many coverage_kind before ≡ 0 → ⊥) → many transition_kind before < base.transitions
      → Counts (record { coverages = t.coverages; transitions = t.transitions + 1; rules = t.rules; events = t.events; least = p + spacing }) (transition v ∷ before)
  more_2 v p q n h =
      record {
        coverages = c.coverages;
        transitions = let e = c.transitions in omega arith;
        rules = c.rules;
        events = c.events;
        coverages_few = c.coverages_few;
        transitions_few = let e = c.transitions in omega arith;
        rules_few = c.rules_few;
        events_few = c.events_few;
        headed = λ e. absurd (n e);
        least = (p, q, refl);
      }

  more_3 : (v : Rule) → (many coverage_kind before ≡ 0 → ⊥) → many rule_kind before < base.rules
      → Counts (record { coverages = t.coverages; transitions = t.transitions; rules = t.rules + 1; events = t.events; least = t.least }) (rule v ∷ before)
  more_3 v n h =
      record {
        coverages = c.coverages;
        transitions = c.transitions;
        rules = let e = c.rules in omega arith;
        events = c.events;
        coverages_few = c.coverages_few;
        transitions_few = c.transitions_few;
        rules_few = let e = c.rules in omega arith;
        events_few = c.events_few;
        headed = λ e. absurd (n e);
        least = c.least;
      }

  more_4 : (v : Event) → (many coverage_kind before ≡ 0 → ⊥) → many event_kind before < base.events
      → Counts (record { coverages = t.coverages; transitions = t.transitions; rules = t.rules; events = t.events + 1; least = t.least }) (event v ∷ before)
  more_4 v n h =
      record {
        coverages = c.coverages;
        transitions = c.transitions;
        rules = c.rules;
        events = let e = c.events in omega arith;
        coverages_few = c.coverages_few;
        transitions_few = c.transitions_few;
        rules_few = c.rules_few;
        events_few = let e = c.events in omega arith;
        headed = λ e. absurd (n e);
        least = c.least;
      }

-- before the earliest second that it may have
closer_by : (o : Option ℤ) (m p : ℕ) → Least o m → ltb p m ≡ closer o (meant w64 p)
closer_by None m p e = ap (ltb p) e ∙ le-ltb p 0 (omega arith)
closer_by (Some z) m p (q, e, f) =
    ap (ltb p) f ∙ sym (order_lt w64 p (q + spacing)) ∙ ap (lt_z (meant w64 p)) (sym (ap (λ (i : ℤ). i +ℤ pos spacing) e ∙ meant_sum w64 q spacing))

-- where a record begins, or the book ends
pub record Here (s : List ℕ) (at : ℕ) (t : Seen) : Type 0 where
  pub before : List Record
  pub turns : ℕ
  pub enough : length s ≤ at + turns
  pub inside : at ≤ length s
  pub small : length s ≤ base.bytes
  pub counts : Counts t before
  pub same : refusal base s ≡ number_from base s turns at before

pub start : (s : List ℕ) → length s ≤ base.bytes → Here s 0 (record { coverages = 0; transitions = 0; rules = 0; events = 0; least = 0 })
unfolding refusal
start s h =
    record {
      before = [];
      turns = length s;
      enough = omega arith;
      inside = omega arith;
      small = h;
      counts =
          record {
            coverages = refl;
            transitions = refl;
            rules = refl;
            events = refl;
            coverages_few = omega arith;
            transitions_few = omega arith;
            rules_few = omega arith;
            events_few = omega arith;
            headed = λ e. refl;
            least = refl;
          };
      same = simp (le-ltb _ _ h);
    }

pub over : (s : List ℕ) → base.bytes < length s → 1 ≡ refusal base s
unfolding refusal
over s h = simp (lt-ltb base.bytes (length s) h)

module _ {s : List ℕ} {at : ℕ} {t : Seen} (here : Here s at t) where
  end_at : (turns : ℕ) → at ≡ length s → number_from base s turns at here.before ≡ 0
  unfolding number_from
  end_at zero e = refl
  end_at (suc turns) e = let l : length s ≤ at = omega arith in simp (le-leb (length s) at l)

  pub end : at ≡ length s → 0 ≡ refusal base s
  end e = sym (here.same ∙ end_at here.turns e)

  module _ (ne : at ≡ length s → ⊥) where
    open_at : at < length s
    open_at = let i = here.inside in omega arith

    stop_at : (turns : ℕ) → length s ≤ at + turns → eqb (number_at base s at here.before) 0 ≡ false
        → number_from base s turns at here.before ≡ number_at base s at here.before
    unfolding number_from
    stop_at zero h e = absurd (omega (arith, open_at))
    stop_at (suc turns) h e = simp (lt-leb (length s) at open_at, e)

    pub stop : (m : ℕ) → number_at base s at here.before ≡ m → (m ≡ 0 → ⊥) → m ≡ refusal base s
    stop m e nz = sym (here.same ∙ stop_at here.turns here.enough (ne_eqb _ _ (λ z. nz (sym e ∙ z))) ∙ e)

    pub stop_2 : bad_frame s at ≡ true → 2 ≡ refusal base s
    unfolding number_at
    stop_2 e = stop 2 (simp e) (omega arith)

    go_at : (turns : ℕ) → length s ≤ at + turns → number_at base s at here.before ≡ 0
        → (g : ℕ) × (turns ≡ suc g) × (number_from base s turns at here.before ≡ number_from base s g (next_at s at) (record_at s at ∷ here.before))
    unfolding number_from
    go_at zero h e = absurd (omega (arith, open_at))
    go_at (suc turns) h e = (turns, refl, simp (lt-leb (length s) at open_at, e))

    pub on : Framed s at → number_at base s at here.before ≡ 0 → (t' : Seen) → Counts t' (record_at s at ∷ here.before) → (next : ℕ)
        → next ≡ next_at s at → Here s next t'
    on f e t' counts next to =
        let g = go_at here.turns here.enough e in
        let w = f.whole in
        record {
          before = record_at s at ∷ here.before;
          turns = g.0;
          enough = let u = g.1 in let v = here.enough in omega arith;
          inside = omega arith;
          small = here.small;
          counts = counts;
          same = here.same ∙ g.2 ∙ ap (λ (i : ℕ). number_from base s g.0 i (record_at s at ∷ here.before)) (sym to);
        }

-- ---- a record whose length is right: its tests

pub record Known (s : List ℕ) (at : ℕ) (t : Seen) (k : ℕ) : Type 0 where
  pub here : Here s at t
  pub ne : at ≡ length s → ⊥
  pub fine : bad_frame s at ≡ false
  pub frame : Framed s at
  pub kind : k ≡ kind_at s at

pub known : {s : List ℕ} {at : ℕ} {t : Seen} → Here s at t → (at ≡ length s → ⊥) → bad_frame s at ≡ false → (k : ℕ) → k ≡ kind_at s at → Known s at t k
known {s} {at} here ne fine k e = record { here = here; ne = ne; fine = fine; frame = framed s at fine; kind = e }

module _ {s : List ℕ} {at : ℕ} {t : Seen} {k : ℕ} (n : Known s at t k) where
  abbrev pub r : Record
  r = record_at s at

  abbrev pub earlier : List Record
  earlier = n.here.before

  number_at_law : (m : ℕ) → number_of base earlier r ≡ m → number_at base s at earlier ≡ m
  unfolding number_at
  number_at_law m e = simp n.fine e

  by_number : (m : ℕ) → number_of base earlier r ≡ m → (m ≡ 0 → ⊥) → m ≡ refusal base s
  by_number m e nz = stop n.here n.ne m (number_at_law m e) nz

  pub kind_is : kind_of r ≡ k
  kind_is = go (kind_of_law s at k n.frame n.kind)
    where
      go : Kind k → kind_of r ≡ k
      go (one i) = ap kind_of (is_one s at k n.frame n.kind i) ∙ sym i
      go (two i) = ap kind_of (is_two s at k n.frame n.kind i) ∙ sym i
      go (three i) = ap kind_of (is_three s at k n.frame n.kind i) ∙ sym i
      go (four i) = ap kind_of (is_four s at k n.frame n.kind i) ∙ sym i

  -- ---- 9

  close_is : k ≡ transition_kind → ltb (turned w64 (number transition_instant s at)) t.least ≡ too_close earlier r
  close_is i =
      closer_by (last_instant earlier) t.least (turned w64 (number transition_instant s at)) n.here.counts.least
      ∙ sym (ap (too_close earlier) (is_two s at k n.frame n.kind i))

  never_close : (k ≡ transition_kind → ⊥) → too_close earlier r ≡ false
  never_close ne = go (kind_of_law s at k n.frame n.kind)
    where
      go : Kind k → too_close earlier r ≡ false
      go (one i) = ap (too_close earlier) (is_one s at k n.frame n.kind i)
      go (two i) = absurd (ne i)
      go (three i) = ap (too_close earlier) (is_three s at k n.frame n.kind i)
      go (four i) = ap (too_close earlier) (is_four s at k n.frame n.kind i)

  -- ---- one more

  few_of : too_many base earlier r ≡ false → (j : ℕ) → kind_at s at ≡ j → many j earlier < most base j
  few_of h j i =
      let z : kind_of r ≡ j = kind_is ∙ n.kind ∙ i in
      leb-false (most base j) (many j earlier) (ap (λ (m : ℕ). leb (most base m) (many m earlier)) (sym z) ∙ h)

  not_one : headless earlier r ≡ false → (j : ℕ) → kind_at s at ≡ j → (j ≡ coverage_kind → ⊥) → many coverage_kind earlier ≡ 0 → ⊥
  not_one h j i ne = not_first n.here.counts r h (λ q. ne (sym i ∙ sym n.kind ∙ sym kind_is ∙ q))

  counts_on : headless earlier r ≡ false → too_many base earlier r ≡ false → (t' : Seen) → t' ≡ one_more s at t → Counts t' (r ∷ earlier)
  counts_on h2 h3 t' e = go (kind_of_law s at (kind_at s at) n.frame refl)
    where
      go : Kind (kind_at s at) → Counts t' (r ∷ earlier)
      go (one i) = rw (e, i) (more_1 n.here.counts (coverage_at s at) (few_of h3 coverage_kind i))
      go (two i) = rw (e, i) (more_2 n.here.counts (transition_at s at) (turned w64 (number transition_instant s at)) refl (not_one h2 transition_kind i (λ q. omega arith)) (few_of h3 transition_kind i))
      go (three i) = rw (e, i) (more_3 n.here.counts (rule_at s at) (not_one h2 rule_kind i (λ q. omega arith)) (few_of h3 rule_kind i))
      go (four i) = rw (e, i) (more_4 n.here.counts (event_at s at) (not_one h2 event_kind i (λ q. omega arith)) (few_of h3 event_kind i))

  seconds_high : (p : ℕ) → not (inside seconds (meant w64 p)) ≡ false → p ≤ half w64 + seconds_after
  unfolding meant
  seconds_high p q =
      let low = half w64 - seconds_before in
      let high = half w64 + seconds_after in
      ltb-false high p (or_false (ltb p low) (ltb high p) (outside_test w64 low high p ∙ q)).1

  pub room_of : bad_fields base r ≡ false → Room s at t
  unfolding bad_fields
  room_of h =
      record {
        coverages = let c = n.here.counts.coverages_few in omega arith;
        transitions = let c = n.here.counts.transitions_few in omega arith;
        rules = let c = n.here.counts.rules_few in omega arith;
        events = let c = n.here.counts.events_few in omega arith;
        instant = λ i.
            let z : bad_fields base (transition (transition_at s at)) ≡ false = ap (bad_fields base) (sym (is_two s at k n.frame n.kind (n.kind ∙ i))) ∙ h in
            let y = seconds_high (turned w64 (number transition_instant s at)) (or_false _ _ z).0 in
            omega arith;
      }

  -- ---- 2

  headless_by : (bs : List Record) → t.coverages ≡ many coverage_kind bs → (many coverage_kind bs ≡ 0 → bs ≡ []) → (eqb t.coverages 0 && not (eqb k coverage_kind)) ≡ headless bs r
  headless_by [] c h = rw (c, kind_is)
  headless_by (b ∷ bs) c h =
      let z : (t.coverages ≡ 0 → ⊥) = λ q. no_cons (h (sym c ∙ q)) in
      simp (ne_eqb _ _ z)
    where
      no_cons : ◌≡◌ {A = List Record} (b ∷ bs) [] → ⊥
      no_cons q = let y : ◌≡◌ {A = ℕ} 0 1 = cc in omega arith

  pub headless_is : (eqb t.coverages 0 && not (eqb k coverage_kind)) ≡ headless earlier r
  headless_is = headless_by earlier n.here.counts.coverages n.here.counts.headed

  pub head_2 : headless earlier r ≡ true → 2 ≡ refusal base s
  head_2 e = by_number 2 (number_2 base earlier r e) (omega arith)

  -- ---- 3

  pub seen_is : seen k t ≡ many k earlier
  seen_is = counted t earlier n.here.counts k (kind_of_law s at k n.frame n.kind)

  pub many_is : leb (most base k) (seen k t) ≡ too_many base earlier r
  many_is = ap₂ (λ (i j : ℕ). leb (most base i) j) (sym kind_is) (seen_is ∙ ap (λ (i : ℕ). many i earlier) (sym kind_is))

  pub many_3 : headless earlier r ≡ false → too_many base earlier r ≡ true → 3 ≡ refusal base s
  many_3 h2 e = by_number 3 (number_3 base earlier r h2 e) (omega arith)

  -- ---- 4

  pub fields_4 : headless earlier r ≡ false → too_many base earlier r ≡ false → bad_fields base r ≡ true → 4 ≡ refusal base s
  fields_4 h2 h3 e = by_number 4 (number_4 base earlier r h2 h3 (ap (λ (b : Bool). b || bad_items r) e)) (omega arith)

-- ---- a record whose fields are right

pub record Fine (s : List ℕ) (at : ℕ) (t : Seen) (k : ℕ) : Type 0 where
  pub known : Known s at t k
  pub headed : headless (earlier known) (r known) ≡ false
  pub few : too_many base (earlier known) (r known) ≡ false
  pub fields : bad_fields base (r known) ≡ false

pub fine : {s : List ℕ} {at : ℕ} {t : Seen} {k : ℕ} (n : Known s at t k) → (eqb t.coverages 0 && not (eqb k coverage_kind)) ≡ false
    → leb (most base k) (seen k t) ≡ false → bad_fields base (r n) ≡ false → Fine s at t k
fine n h m f = record { known = n; headed = sym (headless_is n) ∙ h; few = sym (many_is n) ∙ m; fields = f }

-- i of its n points or times were looked at
pub record Looking (s : List ℕ) (at : ℕ) (t : Seen) (k n i item least : ℕ) (fell : Bool) : Type 0 where
  pub fine : Fine s at t k
  pub many : n ≡ items_at s at
  pub looked : Looked s k at n i item least fell

module _ {s : List ℕ} {at : ℕ} {t : Seen} {k n i item least : ℕ} {fell : Bool} (p : Looking s at t k n i item least fell) where
  abbrev kn : Known s at t k
  kn = p.fine.known

  items_bad_at : bad_from s k at n ≡ bad_items (r kn)
  items_bad_at = items_bad s at k n kn.frame kn.kind p.many

  pub items_4 : i < n → bad_item s k item ≡ true → 4 ≡ refusal base s
  items_4 h b =
      by_number kn 4 (number_4 base (earlier kn) (r kn) p.fine.headed p.fine.few (ap₂ ◌||◌ p.fine.fields (sym items_bad_at ∙ looked_bad p.looked h b))) (omega arith)

  pub look_on : (a d : ℕ) → i < n → bad_item s k item ≡ false → a ≡ number (time k) s item → d ≡ step k
      → Looking s at t k n (i + 1) (item + d) (a + 1) (fell || ltb a least)
  look_on a d h b e q =
      record { fine = p.fine; many = p.many; looked = looked_good p.looked a d h b e q }

  -- all of them
  module _ (h : n ≤ i) where
    within : outside base (r kn) ≡ false
    within = ap₂ ◌||◌ p.fine.fields (sym items_bad_at ∙ looked_all p.looked h)

    pub falls_is : (fell && is_rule k) ≡ falling (r kn)
    falls_is = ap (λ (b : Bool). b && is_rule k) (sym (looked_falls p.looked h)) ∙ items_fall s at k n kn.frame kn.kind p.many

    pub late_5 : late_start (r kn) ≡ true → 5 ≡ refusal base s
    late_5 e = by_number kn 5 (number_5 base (earlier kn) (r kn) p.fine.headed p.fine.few within e) (omega arith)

    module _ (h5 : late_start (r kn) ≡ false) where
      pub falls_6 : (fell && is_rule k) ≡ true → 6 ≡ refusal base s
      falls_6 e = by_number kn 6 (number_6 base (earlier kn) (r kn) p.fine.headed p.fine.few within h5 (sym falls_is ∙ e)) (omega arith)

      module _ (h6 : (fell && is_rule k) ≡ false) where
        pub reversed_7 : reversed (r kn) ≡ true → 7 ≡ refusal base s
        reversed_7 e = by_number kn 7 (number_7 base (earlier kn) (r kn) p.fine.headed p.fine.few within h5 (sym falls_is ∙ h6) e) (omega arith)

        module _ (h7 : reversed (r kn) ≡ false) where
          pub covers_8 : covers_nothing (r kn) ≡ true → 8 ≡ refusal base s
          covers_8 e = by_number kn 8 (number_8 base (earlier kn) (r kn) p.fine.headed p.fine.few within h5 (sym falls_is ∙ h6) h7 e) (omega arith)

          module _ (h8 : covers_nothing (r kn) ≡ false) where
            close_9 : too_close (earlier kn) (r kn) ≡ true → 9 ≡ refusal base s
            close_9 e = by_number kn 9 (number_9 base (earlier kn) (r kn) p.fine.headed p.fine.few within h5 (sym falls_is ∙ h6) h7 h8 e) (omega arith)

            -- every test is passed
            on_all : too_close (earlier kn) (r kn) ≡ false → (t' : Seen) → t' ≡ one_more s at t → (next : ℕ) → next ≡ next_at s at → Here s next t'
            on_all h9 t' e next to =
                on kn.here kn.ne kn.frame
                (number_at_law kn 0
                (all_passed base (earlier kn) (r kn)
                (record {
                  headed = p.fine.headed;
                  few = p.fine.few;
                  fields = within;
                  prompt = h5;
                  rising = sym falls_is ∙ h6;
                  forward = h7;
                  covering = h8;
                  apart = h9;
                })))
                t' (counts_on kn p.fine.headed p.fine.few t' e) next to

            -- no transition
            pub on_other : (k ≡ transition_kind → ⊥) → (t' : Seen) → t' ≡ one_more s at t → (next : ℕ) → next ≡ next_at s at → Here s next t'
            on_other ne = on_all (never_close kn ne)

-- ---- a transition: it has no points, and of the tests behind its fields only the last can fail

module _ {s : List ℕ} {at : ℕ} {t : Seen} {k : ℕ} (p : Fine s at t k) (i : k ≡ transition_kind) where
  abbrev n : Known s at t k
  n = p.known

  abbrev looking : Looking s at t k 0 0 at 0 false
  looking = record { fine = p; many = few_items s at k n.frame n.kind (rw i); looked = looked_none s k at 0 }

  h5 : late_start (r n) ≡ false
  h5 = sym (never_late s at k n.frame n.kind (rw i))

  h7 : reversed (r n) ≡ false
  h7 = sym (never_reversed s at k n.frame n.kind (rw i))

  h8 : covers_nothing (r n) ≡ false
  h8 = sym (no_coverage s at k n.frame n.kind (λ q. omega arith))

  pub transition_9 : ltb (turned w64 (number transition_instant s at)) t.least ≡ true → 9 ≡ refusal base s
  transition_9 e = close_9 looking (omega arith) h5 refl h7 h8 (sym (close_is n i) ∙ e)

  pub on_transition : ltb (turned w64 (number transition_instant s at)) t.least ≡ false → (t' : Seen) → t' ≡ one_more s at t → (next : ℕ)
      → next ≡ next_at s at → Here s next t'
  on_transition h9 = on_all looking (omega arith) h5 refl h7 h8 (sym (close_is n i) ∙ h9)
