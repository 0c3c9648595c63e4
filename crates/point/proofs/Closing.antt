-- The cases of a point query come together: each leaves what document 01 says. Assumes nothing.
use mathlib.Core.Path.{◌≡◌, refl, sym, ap, ap₂, ◌∙◌}
use mathlib.Core.Bool.{Bool, true, false, cond}
use mathlib.Core.List.{List, [], ◌∷◌}
use Rattle.std.specs.Prelude.{Option, None, Some, Ok, Err}
use Prim.Native.Nat.{ℕ}
use borrow.Author.Tests.{eq-eqb, ne_eqb}
use lib.IntN.{ℤ}
use Rattle.zone.specs.Units.{instant_number, instant_of}
use Rattle.zone.specs.declared.Interval.{Interval}
use Rattle.records.specs.Limits.{base}
use Rattle.records.specs.Records.{Coverage}
use Rattle.records.specs.Book.{inside, instants, refusal, records}
use Rattle.venue.specs.Opening.{opened}
use Rattle.venue.specs.Filled.{Holds}
use Rattle.venue.specs.declared.opened.Header.{Header}
use Rattle.venue.specs.declared.venue.Venue.{Venue}
use Rattle.venue.proofs.Known.{opened_refused, opened_empty, Known, start_number, end_number}
use Rattle.day.specs.Days.{Values, Held, values_of, point_of}
use Rattle.day.specs.Venues.{values_in}
use Rattle.day.proofs.Opened.{opened_values}
use Rattle.answer.specs.Forms.{Cover, point, encode, encode_all}
use Rattle.answer.specs.Meaning.{missing_of}
use Rattle.answer.proofs.Several.{one_form}
use Rattle.lend.specs.Lending.{Lent}
use Rattle.lend.specs.Refusals.{number, reply_of}
use Rattle.lend.specs.declared.Reply.{Reply}
use Rattle.lend.specs.declared.refusal.Refusal.{Refusal}
use Rattle.lend.proofs.Refusals.{refuses}
use Rattle.lend.proofs.Replies.{lent_refused, lent_same}
use Rattle.query.proofs.Instants.{number_back}
use Rattle.point.specs.Asking.{missing_forms, by_point, by_coverage, point_forms, point_number, point_answer}
use Rattle.point.specs.Private.{told_held, told}

-- ---- the number

number_book : (s : List ℕ) (n : ℤ) → (refusal base s ≡ 0 → ⊥) → refusal base s ≡ point_number s n
unfolding point_number
number_book s n e = sym (ap (λ (b : Bool). cond b (cond (inside instants n) 0 10) (refusal base s)) (ne_eqb (refusal base s) 0 e))

number_by : (s : List ℕ) (n : ℤ) → refusal base s ≡ 0 → (b : Bool) → inside instants n ≡ b → cond b 0 10 ≡ point_number s n
unfolding point_number
number_by s n z b e =
    sym
    (ap (λ (q : Bool). cond q (cond (inside instants n) 0 10) (refusal base s)) (eq-eqb (refusal base s) 0 z) ∙ ap (λ (q : Bool). cond q 0 10) e)

-- ---- what is told is document 01's answer

told_is : {s : List ℕ} {h : Header} {v : Venue} → Holds s h v → (k : Known s h) (n : ℤ) → instant_number (instant_of n) ≡ n
    → told (values_in v) (Some v.coverage) (instant_of n) ≡ point_forms s n
told_is {s} w k n q =
    ap₂ (λ (x : Values) (i : Interval). told x (Some i) (instant_of n)) (opened_values w k)
    (w.coverage ∙ ap (λ (x : Header). x.coverage) k.header)
    ∙ go (point_of (values_of (records s) c) (instant_of n))
    ∙ sym (ap (by_coverage (records s) n) k.is)
  where
    c : Coverage
    c = k.covered

    go : (o : Option Held)
        → told_held (values_of (records s) c) (Some (record { start = record { 0 = instant_of c.start }; end = record { 0 = instant_of c.end } })) (instant_of n) o
        ≡ by_point (values_of (records s) c) c n o
    go None =
        ap₂ (λ (x : ℤ) (y : Cover). point (record { at = x; coverage = Some y }) ∷ []) q
        (ap₂ (λ (x y : ℤ). record { start = x; end = y }) (start_number k) (end_number k))
    go (Some x) = refl

-- ---- the cases

module _ (s : List ℕ) (n : ℤ) {room : List ℕ} where
  -- the book is refused
  pub close_refused : (w : Refusal) → Err (number w) ≡ opened s → Lent (point_number s n) (point_answer s n) room room (reply_of (Err w))
  close_refused w e =
      let o = opened_refused s (number w) e in
      lent_same (lent_refused (point_answer s n) room (refuses w)) (o.0 ∙ number_book s n o.1) refl

  -- the instant is out of range
  pub close_outside : refusal base s ≡ 0 → inside instants n ≡ false → (w : Refusal) → number w ≡ 10
      → Lent (point_number s n) (point_answer s n) room room (reply_of (Err w))
  close_outside z i w e = lent_same (lent_refused (point_answer s n) room (refuses w)) (e ∙ number_by s n z false i) refl

  module _ {left : List ℕ} {r : Reply} {t : ℕ} (i : (t ≡ instant_of n) × (inside instants n ≡ true)) where
    -- a venue without data
    pub close_empty : Ok None ≡ opened s → Lent 0 (encode (point (missing_of t None))) room left r
        → Lent (point_number s n) (point_answer s n) room left r
    unfolding point_answer
    close_empty o w =
        let c = opened_empty s o in
        let m : instant_number t ≡ n = ap instant_number i.0 ∙ number_back n i.1 in
        lent_same w (number_by s n c.0 true i.1)
        (one_form (point (missing_of t None))
        ∙ ap (λ (x : ℤ). encode_all (missing_forms x None)) m
        ∙ sym (ap (λ (x : Option _). encode_all (by_coverage (records s) n x)) c.1))

    -- a venue
    pub close_venue : {h : Header} {v : Venue} → Holds s h v → Known s h
        → Lent 0 (encode_all (told (values_in v) (Some v.coverage) t)) room left r → Lent (point_number s n) (point_answer s n) room left r
    unfolding point_answer
    close_venue {v = v} holds k w =
        lent_same w (number_by s n k.accepted true i.1)
        (ap (λ (x : ℕ). encode_all (told (values_in v) (Some v.coverage) x)) i.0 ∙ ap encode_all (told_is holds k n (number_back n i.1)))
