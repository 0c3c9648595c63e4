-- Events written from the arrays that keep them. Assumes nothing.
use mathlib.Core.Path.{◌≡◌, refl, sym, ap, ap₂, subst, ◌∙◌}
use mathlib.Core.List.{List, map}
use Prim.Native.Nat.{ℕ, ◌+◌, ◌-◌, ◌*◌, ◌≤◌, ◌<◌}
use native.Mathlib.Omega.{arith}
use native.Mathlib.Decide.{dec_lt}
use lib.ListN.{length, get_or}
use Rattle.wire.specs.Fields.{Inside, Put}
use Rattle.zone.specs.declared.Uncertainty.{Uncertainty}
use Rattle.records.specs.Records.{event_at}
use Rattle.venue.specs.Reading.{published}
use Rattle.events.specs.Happenings.{by_instant}
use Rattle.events.specs.Seeking.{in_turn}
use Rattle.events.specs.Keeping.{listed, best_at, kept_at, kept_of, Next}
use Rattle.events.specs.declared.Occurrence.{Occurrence}
use Rattle.events.proofs.Choosing.{best_some, best_none, listed_length}
use Rattle.events.proofs.Collecting.{Holds}
use Rattle.answer.specs.Forms.{Form, event, encode, encode_all, event_size}
use Rattle.answer.specs.Meaning.{event_of}
use Rattle.span_records.specs.Shown.{event_form}
use Rattle.span_records.proofs.Trailing.{no_turn, Trailing, trail_start, trail_room, trail_one, trail_end}

-- what is read of an event, as its record
kept_form : (book : List ℕ) (t p : ℕ) {u : Uncertainty} {code evidence : ℕ} → u ≡ published (event_at book p).uncertainty
    → code ≡ (event_at book p).code → evidence ≡ (event_at book p).evidence
    → ◌≡◌ {A = Form} (event (event_of code (record { at = record { 0 = t }; uncertainty = u }) evidence)) (event_form (kept_at book t p))
kept_form book t p {u} {code} {evidence} d e f =
    ap₂ (λ (m n : ℕ). event (event_of m (record { at = record { 0 = t }; uncertainty = u }) n)) e f
    ∙ ap (λ (v : Uncertainty). event (event_of (event_at book p).code (record { at = record { 0 = t }; uncertainty = v }) (event_at book p).evidence)) d

module _ (book when which : List ℕ) (n : ℕ) (room : List ℕ) (at : ℕ) where
  abbrev o : ℕ → Occurrence
  o = kept_of book when which

  -- i are written, and the next to write is known
  pub record Turning (now : List ℕ) (place next i : ℕ) : Type 0 where
    pub trailing : Trailing (listed o 0 n) room at now place i (best_at o n next)

  pub turn_start : {next : ℕ} → Inside at (event_size * n) room → Next when n 0 0 next → Turning room at next 0
  turn_start f p = record { trailing = trail_start (listed o 0 n) room at (omega (arith, listed_length o 0 n)) (sym (p.best o (λ i h. refl))) }

  module _ {now : List ℕ} {place next i : ℕ} (w : Turning now place next i) where
    pub turn_next : i < n → next < n
    turn_next h = go (dec_lt next n)
      where
        go : Dec (next < n) → next < n
        go (yes l) = l
        go (no l) =
            let os = listed o 0 n in
            let none = ap length (ap (in_turn os (length os - i)) (best_none o n next (omega arith)) ∙ no_turn os (length os - i)) in
            absurd (omega (arith, w.trailing.left, none, listed_length o 0 n))

    here : i < n → i < length (listed o 0 n)
    here h = omega (arith, listed_length o 0 n)

    pub turn_room : i < n → place + event_size ≤ length now
    turn_room h = trail_room (listed o 0 n) room at w.trailing (here h) (o next) next (best_some o n next (turn_next h))

    pub turn_one : {now' : List ℕ} {place' next' code evidence : ℕ} {u : Uncertainty} → i < n
        → u ≡ published (event_at book (get_or which next 0)).uncertainty
        → code ≡ (event_at book (get_or which next 0)).code → evidence ≡ (event_at book (get_or which next 0)).evidence
        → Put now place (encode (event (event_of code (record { at = record { 0 = get_or when next 0 }; uncertainty = u }) evidence))) event_size now' place'
        → Next when n (get_or when next 0) (next + 1) next' → Turning now' place' next' (i + 1)
    turn_one {now'} {place'} h d e f put p =
        record {
          trailing =
              trail_one (listed o 0 n) room at w.trailing (here h) (o next) next (best_some o n next (turn_next h))
              (subst (λ (x : Form). Put now place (encode x) event_size now' place') (kept_form book (get_or when next 0) (get_or which next 0) d e f) put) (sym (p.best o (λ j l. refl)));
        }

    pub turn_end : n ≤ i → Put room at (encode_all (map event_form (by_instant (listed o 0 n)))) (event_size * n) now place
    turn_end h =
        subst (λ (m : ℕ). Put room at (encode_all (map event_form (by_instant (listed o 0 n)))) (event_size * m) now place) (listed_length o 0 n)
        (trail_end (listed o 0 n) room at w.trailing (omega (arith, listed_length o 0 n)))

-- where the arrays hold the events of a span, these are written
pub held_put : {book a b a' b' room now : List ℕ} {at n place : ℕ} {os : List Occurrence} → Holds book a b a' b' n os → n ≤ length a → n ≤ length b
    → Put room at (encode_all (map event_form (by_instant (listed (kept_of book a' b') 0 n)))) (event_size * n) now place
    → Put room at (encode_all (map event_form (by_instant os))) (event_size * length os) now place
held_put {room = room} {now} {at} {n} {place} {os} held g h put =
    subst (λ (m : ℕ). Put room at (encode_all (map event_form (by_instant os))) (event_size * m) now place) held.count
    (subst (λ (ps : List Occurrence). Put room at (encode_all (map event_form (by_instant ps))) (event_size * n) now place) (held.same g h) put)
