-- What a book is, by what opening answered. Assumes nothing.
use mathlib.Core.Path.{◌≡◌, refl, sym, ap, ◌∙◌}
use mathlib.Core.Bool.{Bool, true, false, cond}
use mathlib.Core.List.{List}
use Rattle.std.specs.Prelude.{Option, None, Some, Result, Ok, Err}
use Prim.Native.Nat.{ℕ, ◌+◌, ◌-◌, ◌*◌, ◌≤◌}
use native.Mathlib.Omega.{arith}
use borrow.Author.Tests.{eqb-true, eq-eqb}
use lib.Dec.{eqb}
use lib.IntN.{ℤ}
use lib.ListN.{length}
use mir.Syntax.{w64}
use Rattle.wire.specs.Signs.{meant, turned}
use Rattle.wire.proofs.Signs.{since_meant}
use Rattle.calendar.specs.Answers.{zero_day}
use Rattle.zone.specs.Units.{day_ns, instant_number, instant_of}
use Rattle.zone.proofs.Domain.{instant_zero, instant_placed}
use Rattle.records.specs.Layout.{number, coverage_start, coverage_end, transition_kind}
use Rattle.records.specs.Limits.{base}
use Rattle.records.specs.Records.{Coverage, coverage_at}
use Rattle.records.specs.Book.{many, refusal, records}
use Rattle.venue.specs.Opening.{coverage_of, header_of, venue_of, opened, rule_places, event_places, number_opened}
use Rattle.venue.specs.declared.opened.Header.{Header}
use Rattle.venue.proofs.Headers.{no_records, Head, head}
use Rattle.venue.proofs.Laws.{rules_count, events_count}

-- ---- the cases of opening

abbrev Opened : Type 0
Opened = Result (Option Header) ℕ

-- a book that is refused
pub opened_refused : (s : List ℕ) (n : ℕ) → ◌≡◌ {A = Opened} (Err n) (opened s) → (n ≡ refusal base s) × (refusal base s ≡ 0 → ⊥)
unfolding opened
opened_refused s n e = go (eqb (refusal base s) 0) refl e
  where
    other : (o : Option Coverage) → ◌≡◌ {A = Opened} (Err n) (Ok (venue_of (records s) o)) → (n ≡ refusal base s) × (refusal base s ≡ 0 → ⊥)
    other o q = absurd (cc)

    go : (b : Bool) → eqb (refusal base s) 0 ≡ b
        → ◌≡◌ {A = Opened} (Err n) (cond b (Ok (venue_of (records s) (coverage_of (records s)))) (Err (refusal base s)))
        → (n ≡ refusal base s) × (refusal base s ≡ 0 → ⊥)
    go true i q = other (coverage_of (records s)) q
    go false i q =
        (ap (λ (o : Opened). number_opened o 0) q, λ z. let y : ◌≡◌ {A = Bool} true false = sym (eq-eqb (refusal base s) 0 z) ∙ i in let x : ◌≡◌ {A = ℕ} 0 1 = cc in omega arith)

-- a venue without data
pub opened_empty : (s : List ℕ) → ◌≡◌ {A = Opened} (Ok None) (opened s) → (refusal base s ≡ 0) × (coverage_of (records s) ≡ None)
unfolding opened
opened_empty s e = go (eqb (refusal base s) 0) refl e
  where
    found : (o : Option Coverage) → ◌≡◌ {A = Opened} (Ok None) (Ok (venue_of (records s) o)) → o ≡ None
    found None q = refl
    found (Some c) q = absurd (cc)

    go : (b : Bool) → eqb (refusal base s) 0 ≡ b
        → ◌≡◌ {A = Opened} (Ok None) (cond b (Ok (venue_of (records s) (coverage_of (records s)))) (Err (refusal base s)))
        → (refusal base s ≡ 0) × (coverage_of (records s) ≡ None)
    go true i q = (eqb-true (refusal base s) 0 i, found (coverage_of (records s)) q)
    go false i q = absurd (cc)

-- a venue
pub record Known (s : List ℕ) (h : Header) : Type 0 where
  pub accepted : refusal base s ≡ 0
  pub covered : Coverage
  pub is : coverage_of (records s) ≡ Some covered
  pub header : h ≡ header_of (records s) covered

pub opened_venue : (s : List ℕ) (h : Header) → ◌≡◌ {A = Opened} (Ok (Some h)) (opened s) → Known s h
unfolding opened
opened_venue s h e = go (eqb (refusal base s) 0) refl e
  where
    header : (c : Coverage) → ◌≡◌ {A = Opened} (Ok (Some h)) (Ok (Some (header_of (records s) c))) → h ≡ header_of (records s) c
    header c q = cc

    found : refusal base s ≡ 0 → (o : Option Coverage) → coverage_of (records s) ≡ o
        → ◌≡◌ {A = Opened} (Ok (Some h)) (Ok (venue_of (records s) o)) → Known s h
    found z None i q = absurd (cc)
    found z (Some c) i q = record { accepted = z; covered = c; is = i; header = header c q }

    go : (b : Bool) → eqb (refusal base s) 0 ≡ b
        → ◌≡◌ {A = Opened} (Ok (Some h)) (cond b (Ok (venue_of (records s) (coverage_of (records s)))) (Err (refusal base s))) → Known s h
    go true i q = found (eqb-true (refusal base s) 0 i) (coverage_of (records s)) refl q
    go false i q = absurd (cc)

-- which opening answers
pub known_opened : {s : List ℕ} {h : Header} → Known s h → opened s ≡ Ok (Some h)
unfolding opened
known_opened {s} {h} k =
    ap (λ (b : Bool). cond b (Ok (venue_of (records s) (coverage_of (records s)))) (Err (refusal base s))) (eq-eqb (refusal base s) 0 k.accepted)
    ∙ ap (λ (o : Option Coverage). Ok (venue_of (records s) o)) k.is ∙ ap (λ (x : Header). Ok (Some x)) (sym k.header)

-- ---- instants and their numbers

-- one that is not before 1899-12-25 has its number
number_back : {z : ℤ} (p : ℕ) → z ≡ meant w64 p → instant_zero ≤ p → instant_number (instant_of z) ≡ z
number_back p e h =
    let i : instant_of (meant w64 p) ≡ p - instant_zero = since_meant w64 (zero_day * day_ns) p (omega arith) in
    let j : p - instant_zero + instant_zero ≡ p = omega arith in
    ap (λ (x : ℤ). instant_number (instant_of x)) e ∙ ap instant_number i ∙ instant_placed (p - instant_zero) ∙ ap (meant w64) j ∙ sym e

-- ---- a venue's header

module _ {s : List ℕ} {h : Header} (k : Known s h) where
  abbrev c : Coverage
  c = k.covered

  -- the counts of the header
  pub counts : (h.transitions ≡ many transition_kind (records s)) × (h.rules ≡ length (rule_places s)) × (h.events ≡ length (event_places s))
  counts = (
    ap (λ (x : Header). x.transitions) k.header,
    ap (λ (x : Header). x.rules) k.header ∙ sym (rules_count s k.accepted).0,
    ap (λ (x : Header). x.events) k.header ∙ sym (events_count s k.accepted).0,
  )

  not_empty : length s ≡ 0 → ⊥
  not_empty z = let e : None ≡ Some c = sym (ap coverage_of (no_records s k.accepted z)) ∙ k.is in let y : ◌≡◌ {A = ℕ} 0 1 = cc in omega arith

  first : Head s
  first = head s k.accepted not_empty

  at_head : c ≡ coverage_at s 0
  at_head = let e : Some c ≡ Some (coverage_at s 0) = sym k.is ∙ first.is in cc

  -- coverage's instants have their numbers
  pub start_number : instant_number (instant_of c.start) ≡ c.start
  start_number = number_back (turned w64 (number coverage_start s 0)) (ap (λ (x : Coverage). x.start) at_head) (omega (arith, first.start_low))

  pub end_number : instant_number (instant_of c.end) ≡ c.end
  end_number = number_back (turned w64 (number coverage_end s 0)) (ap (λ (x : Coverage). x.end) at_head) (omega (arith, first.end_low))
