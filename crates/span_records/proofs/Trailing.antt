-- Events written one after the other: what is left to write. Assumes nothing.
use mathlib.Core.Path.{◌≡◌, refl, sym, ap, ap₂, ◌∙◌}
use mathlib.Core.Bool.{Bool, true, false, cond, ◌&&◌}
use mathlib.Core.List.{List, [], ◌∷◌, map}
use Prim.Native.Nat.{ℕ, zero, suc, ◌+◌, ◌-◌, ◌*◌, ◌≤◌, ◌<◌}
use native.Mathlib.Omega.{arith}
use lib.ListN.{length, length-append}
use Rattle.wire.specs.Fields.{wrote, Put}
use Rattle.wire.proofs.Writing.{wrote_wrote, wrote_nothing}
use Rattle.records.proofs.Laid.{laid_length}
use Rattle.events.specs.Happenings.{by_instant}
use Rattle.events.specs.Seeking.{from_here, better, met, sought, begin, in_turn}
use Rattle.events.specs.declared.Occurrence.{Occurrence}
use Rattle.std.specs.Prelude.{Option}
use Rattle.std.specs.Prelude.{None, Some}
use Rattle.events.specs.declared.Search.{Search}
use Rattle.events.proofs.Order.{length_sorted}
use Rattle.events.proofs.Turns.{begun_count, in_turn_law}
use Rattle.answer.specs.Forms.{encode, encode_all, all_fields, event_size}
use Rattle.span_records.specs.Shown.{event_form}

-- ---- lengths

pub event_length : (o : Occurrence) → length (encode (event_form o)) ≡ event_size
unfolding encode
event_length o = laid_length (all_fields (event_form o))

pub events_length : (os : List Occurrence) → length (encode_all (map event_form os)) ≡ event_size * length os
unfolding encode_all
events_length [] = refl
events_length (o ∷ os) =
    let l = length-append (encode (event_form o)) (encode_all (map event_form os)) in
    omega (arith, event_length o, events_length os)

-- ---- the number of the best is below the count

abbrev pub Below : Option (Occurrence × ℕ) → ℕ → Type 0
Below None n = Unit {0}
Below (Some (o, i)) n = i < n

below_more : (b : Option (Occurrence × ℕ)) (n : ℕ) → Below b n → Below b (n + 1)
below_more None n h = tt
below_more (Some (o, i)) n h = omega arith

below_met : (q : Bool) (b : Option (Occurrence × ℕ)) (o : Occurrence) (n : ℕ) → Below b n → Below (cond q (Some (o, n)) b) (n + 1)
below_met true b o n h = omega arith
below_met false b o n h = below_more b n h

below_sought : (s : Search) (os : List Occurrence) → Below s.best s.count → Below (sought s os).best (sought s os).count
unfolding sought
below_sought s [] h = h
below_sought s (o ∷ os) h = below_sought (met s o) os (below_met (from_here s.at.0 s.index o s.count && better s.best o) s.best o s.count h)

pub below_begun : (at index : ℕ) (os : List Occurrence) → Below (sought (begin at index) os).best (length os)
below_begun at index os = go (sought (begin at index) os).best (below_sought (begin at index) os tt)
  where
    go : (b : Option (Occurrence × ℕ)) → Below b (sought (begin at index) os).count → Below b (length os)
    go None h = tt
    go (Some (o, i)) h = omega (arith, begun_count at index os refl)

-- no events are no bytes
pub put_none : {os : List Occurrence} (room : List ℕ) (at : ℕ) → os ≡ [] → Put room at (encode_all (map event_form (by_instant os))) (event_size * length os) room at
unfolding encode_all by_instant
put_none room at e = rw e (record { same = sym (wrote_nothing room at); behind = omega arith; many = refl; kept = refl })

-- ---- what is left

-- nothing, where there is no best
pub no_turn : (os : List Occurrence) (n : ℕ) → in_turn os n None ≡ []
unfolding in_turn
no_turn os zero = refl
no_turn os (suc n) = refl

module _ (os : List Occurrence) (room : List ℕ) (at : ℕ) where
  pub record Trailing (now : List ℕ) (place i : ℕ) (best : Option (Occurrence × ℕ)) : Type 0 where
    pub below : Below best (length os)
    pub left : i + length (in_turn os (length os - i) best) ≡ length os
    pub same : wrote room at (encode_all (map event_form (by_instant os))) ≡ wrote now place (encode_all (map event_form (in_turn os (length os - i) best)))
    pub behind : place ≡ at + event_size * i
    pub fits : at + event_size * length os ≤ length room
    pub kept : length now ≡ length room

  pub trail_start : at + event_size * length os ≤ length room → {best : Option (Occurrence × ℕ)} → best ≡ (sought (begin 0 0) os).best → Trailing room at 0 best
  trail_start h e =
      let z : length os - 0 ≡ length os = omega arith in
      let q : in_turn os (length os - 0) _ ≡ by_instant os = ap₂ (in_turn os) z e ∙ in_turn_law os in
      record {
        below = rw e (below_begun 0 0 os);
        left = let l = ap length q ∙ length_sorted os in omega arith;
        same = ap (λ (l : List Occurrence). wrote room at (encode_all (map event_form l))) (sym q);
        behind = omega arith;
        fits = h;
        kept = refl;
      }

  module _ {now : List ℕ} {place i : ℕ} {best : Option (Occurrence × ℕ)} (w : Trailing now place i best) where
    -- nothing is left
    over : in_turn os (length os - i) best ≡ [] → Put room at (encode_all (map event_form (by_instant os))) (event_size * length os) now place
    unfolding encode_all
    over e =
        record {
          same = sym (w.same ∙ ap (λ (l : List Occurrence). wrote now place (encode_all (map event_form l))) e ∙ wrote_nothing now place);
          behind = let z = ap length e in omega (arith, w.left, w.behind);
          many = omega (arith, events_length (by_instant os), length_sorted os);
          kept = w.kept;
        }

    pub trail_end : length os ≤ i → Put room at (encode_all (map event_form (by_instant os))) (event_size * length os) now place
    unfolding in_turn
    trail_end h = let z : length os - i ≡ 0 = omega arith in over (ap (λ (n : ℕ). in_turn os n best) z)

    pub trail_none : best ≡ None → Put room at (encode_all (map event_form (by_instant os))) (event_size * length os) now place
    trail_none e = over (ap (in_turn os (length os - i)) e ∙ no_turn os (length os - i))

    module _ (h : i < length os) (o : Occurrence) (index : ℕ) (e : best ≡ Some (o, index)) where
      abbrev next : Option (Occurrence × ℕ)
      next = (sought (begin o.boundary.at.0 (index + 1)) os).best

      turn : in_turn os (length os - i) best ≡ o ∷ in_turn os (length os - (i + 1)) next
      unfolding in_turn
      turn = let k : length os - i ≡ suc (length os - (i + 1)) = omega arith in ap₂ (in_turn os) k e

      pub trail_index : index < length os
      trail_index = rw e at w.below

      pub trail_room : place + event_size ≤ length now
      trail_room = omega (arith, w.behind, w.fits, w.kept)

      pub trail_one : {now' : List ℕ} {place' : ℕ} {best' : Option (Occurrence × ℕ)} → Put now place (encode (event_form o)) event_size now' place' → best' ≡ next
          → Trailing now' place' (i + 1) best'
      unfolding encode_all
      trail_one {now'} {place'} {best'} p b =
          let rest = encode_all (map event_form (in_turn os (length os - (i + 1)) next)) in
          let l = ap length turn in
          let more : i + 1 + length (in_turn os (length os - (i + 1)) next) ≡ length os = omega (arith, w.left) in
          let place_is : place ≡ at + event_size * i = w.behind in
          let next-is : place' ≡ place + event_size = p.behind in
          let fit : place' + length rest ≤ length now =
          omega (arith, more, next-is, place_is, w.fits, w.kept, events_length (in_turn os (length os - (i + 1)) next)) in
          rw b
          (record {
            below = below_begun o.boundary.at.0 (index + 1) os;
            left = more;
            same =
                w.same ∙ ap (λ (x : List Occurrence). wrote now place (encode_all (map event_form x))) turn
                ∙ sym (ap (λ (x : List ℕ). wrote x place' rest) p.same ∙ wrote_wrote now place place' (encode (event_form o)) rest (omega (arith, next-is, p.many)) fit);
            behind = omega (arith, next-is, place_is);
            fits = w.fits;
            kept = omega (arith, p.kept, w.kept);
          })
