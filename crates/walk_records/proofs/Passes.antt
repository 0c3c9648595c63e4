-- How the records of a walk are written, span by span: a span that joins the one before amends its record, any other has one of its own.
-- Assumes nothing.
use mathlib.Core.Path.{◌≡◌, refl, sym, ap, ◌∙◌, subst}
use mathlib.Core.Bool.{Bool, true, false, cond}
use mathlib.Core.List.{List, [], ◌∷◌, ◌++◌, append_assoc, append-nil}
use Prim.Native.Nat.{ℕ, ◌+◌, ◌*◌, ◌≤◌, ◌<◌}
use native.Mathlib.Omega.{arith}
use lib.ListN.{length, length-append}
use Rattle.wire.specs.Fields.{Inside, Put, wrote}
use Rattle.wire.proofs.Writing.{wrote_nothing}
use Rattle.spans.specs.Spans.{Span, joins, joined_span, join_from, joined}
use Rattle.spans.proofs.Loops.{amend, stand as stays}
use Rattle.answer.specs.Amending.{Amends}
use Rattle.answer.specs.Forms.{phase, encode, encode_all, phase_size, event_size}
use Rattle.answer.specs.Meaning.{phase_of}
use Rattle.answer.specs.declared.Phase.{Phase}
use Rattle.answer.proofs.Amended.{front_stands}
use Rattle.span_records.specs.Shown.{Shown}
use Rattle.span_records.proofs.Trailing.{events_length}
use Rattle.joining.specs.Joining.{phases}
use Rattle.walk_records.specs.Walked.{phase_forms}
use Rattle.joining.specs.Amending.{merged_phase}
use Rattle.std.specs.Prelude.{Option, Some, None}
use Rattle.walk_records.proofs.Sizes.{head_bytes, event_bytes, bytes_of, head_length, bytes_cons, both_events, from_more, spans_most}
use Rattle.joining.proofs.Laws.{many, head_at, both_heads, joins_next}
use Rattle.events.specs.Happenings.{most_in_span}
use Rattle.walk_records.specs.Private.{shows, events_place, events_before, told, Recorded}
use Rattle.walk_records.specs.declared.put.Written.{Written}
use Rattle.walk_records.proofs.Records.{record_behind, amended, stood}

-- no span yet
pub record Starts (target written : List ℕ) (left : List (Span Shown)) : Type 0 where
  pub nothing : written ≡ []
  pub rest : target ≡ bytes_of (joined phases left)
  pub few : length left ≤ spans_most

-- the record of the last span stands behind `done`, and its events behind that
pub record Ends (at : ℕ) (target written : List ℕ) (r : Written) (left : List (Span Shown)) : Type 0 where
  pub last : Span Shown
  pub done : List ℕ
  pub says : r.head ≡ head_at last
  pub stands : r.stand ≡ at + length done
  pub parts : written ≡ done ++ (head_bytes last ++ event_bytes last)
  pub rest : target ≡ done ++ bytes_of (join_from phases last left)
  pub few : many last + most_in_span * length left ≤ most_in_span * spans_most

abbrev pub Made : ℕ → List ℕ → List ℕ → Option Written → List (Span Shown) → Type 0
Made at target written None left = Starts target written left
Made at target written (Some r) left = Ends at target written r left

pub record Writing (room : List ℕ) (at : ℕ) (target now : List ℕ) (last : Option Written) (place : ℕ) (left : List (Span Shown)) : Type 0 where
  pub fits : at + length target ≤ length room
  pub written : List ℕ
  pub size : ℕ
  pub put : Put room at written size now place
  pub made : Made at target written last left

pub write_start : (room : List ℕ) (at : ℕ) (qs : List (Span Shown)) → length qs ≤ spans_most
    → at + length (bytes_of (joined phases qs)) ≤ length room → Writing room at (bytes_of (joined phases qs)) room None at qs
write_start room at qs h p =
    record {
      fits = p;
      written = [];
      size = 0;
      put = record { same = sym (wrote_nothing room at); behind = omega arith; many = refl; kept = refl };
      made = record { nothing = refl; rest = refl; few = h };
    }

-- ---- a span more

-- how long what follows is at least
from_least : (q : Span Shown) (qs : List (Span Shown)) → phase_size + event_size * many q ≤ length (bytes_of (join_from phases q qs))
from_least q qs = omega (arith, from_more q qs)

-- what the code asks for while it writes the span q, and what that leaves
pub record Goes (room : List ℕ) (at : ℕ) (target now : List ℕ) (place : ℕ) (q : Span Shown) (qs : List (Span Shown)) (joined : Option Written) : Type 0 where
  pub begin : events_place joined place ≤ length room
  pub space : Inside (events_place joined place) (event_size * many q) now
  pub count : events_before joined + many q < 4294967296
  pub ready : {now1 : List ℕ} {end : ℕ} → Put now (events_place joined place) (event_bytes q) (event_size * many q) now1 end
      → Recorded now1 joined (told joined (head_at q) place)
  pub next : {now1 now2 : List ℕ} {end : ℕ} → Put now (events_place joined place) (event_bytes q) (event_size * many q) now1 end
      → now2 ≡ wrote now1 (told joined (head_at q) place).stand (encode (phase (phase_of (told joined (head_at q) place).head)))
      → Writing room at target now2 (Some (told joined (head_at q) place)) end qs

-- whether it joins is read off the record
joins_is : (s q : Span Shown) (r : Written) → r.head ≡ head_at s → {b : Bool} → joins_next (shows (Some r)) q ≡ b → joins phases s q ≡ b
joins_is s q r h e = ap (λ (x : Phase). joins_next (shows (Some (record { head = x; stand = r.stand }))) q) (sym h) ∙ e

module _ {room : List ℕ} {at : ℕ} {target now : List ℕ} {place : ℕ} {q : Span Shown} {qs : List (Span Shown)} where
  -- it does not join: all that is left comes behind what was written
  ahead : (last : Option Written) (w : Writing room at target now last place (q ∷ qs)) → joins_next (shows last) q ≡ false
      → (target ≡ w.written ++ bytes_of (join_from phases q qs)) × (length (q ∷ qs) ≤ spans_most)
  unfolding joined
  ahead None w e = (w.made.rest ∙ ap (λ (x : List ℕ). x ++ bytes_of (join_from phases q qs)) (sym w.made.nothing), w.made.few)
  ahead (Some r) w e =
      let o = w.made in
      let s = o.last in (
        o.rest ∙ ap (λ (x : List (Span Shown)). o.done ++ bytes_of x) (stays phases [] s q qs (joins_is s q r o.says e))
            ∙ ap (λ (x : List ℕ). o.done ++ x) (bytes_cons s (join_from phases q qs)) ∙ rw o.parts (simp append_assoc),
        omega (arith, o.few),
      )

  module _ (l : many q ≤ most_in_span) (last : Option Written) (w : Writing room at target now last place (q ∷ qs))
      (e : joins_next (shows last) q ≡ false) where
    own_room : place + (phase_size + event_size * many q) ≤ length now
    own_room =
        let a = ap length (ahead last w e).0 in
        omega (arith, length-append w.written (bytes_of (join_from phases q qs)), from_least q qs, w.fits, w.put.behind, w.put.many, w.put.kept)

    own_write : {now1 now2 : List ℕ} {end : ℕ} → Put now (place + phase_size) (event_bytes q) (event_size * many q) now1 end → now2 ≡ wrote now1 place (head_bytes q)
        → Writing room at target now2 (Some (told None (head_at q) place)) end qs
    own_write y z =
        let h = head_length (head_at q) in
        record {
          fits = w.fits;
          written = w.written ++ (head_bytes q ++ event_bytes q);
          size = w.size + (length (head_bytes q) + event_size * many q);
          put = record_behind w.put (head_bytes q) y (omega arith) (omega (arith, own_room)) z;
          made =
              record {
                last = q;
                done = w.written;
                says = refl;
                stands = omega (arith, w.put.behind, w.put.many);
                parts = refl;
                rest = (ahead last w e).0;
                few = let f = (ahead last w e).1 in omega arith;
              };
        }

    own_ready : {now1 : List ℕ} {end : ℕ} → Put now (place + phase_size) (event_bytes q) (event_size * many q) now1 end → Inside place phase_size now1
    own_ready y = omega (arith, own_room, y.kept)

    own_goes : Goes room at target now place q qs None
    own_goes = record { begin = omega (arith, own_room, w.put.kept); space = omega (arith, own_room); count = omega arith; ready = own_ready; next = own_write }

  -- it joins, and amends the record of the span before
  module _ {r : Written} (l : many q ≤ most_in_span) (w : Writing room at target now (Some r) place (q ∷ qs)) (e : joins_next (shows (Some r)) q ≡ true) where
    abbrev o : Ends at target w.written r (q ∷ qs)
    o = w.made

    abbrev s : Span Shown
    s = o.last

    abbrev both : Span Shown
    both = joined_span phases s q

    abbrev new : Written
    new = told (Some r) (head_at q) place

    both_rest : target ≡ o.done ++ bytes_of (join_from phases both qs)
    both_rest = o.rest ∙ ap (λ (x : List (Span Shown)). o.done ++ bytes_of x) (amend phases [] s q qs (joins_is s q r o.says e))

    both_says : new.head ≡ head_at both
    both_says = ap (λ (x : Phase). merged_phase x (head_at q)) o.says ∙ both_heads s q

    so_far : Put room at (o.done ++ (head_bytes s ++ event_bytes s)) w.size now place
    so_far = subst (λ (x : List ℕ). Put room at x w.size now place) o.parts w.put

    so_long : w.size ≡ length o.done + (phase_size + event_size * many s)
    so_long = sym so_far.many ∙ simp (length-append, head_length, events_length)

    join_room : place + event_size * many q ≤ length now
    join_room =
        let t = ap length both_rest ∙ length-append o.done (bytes_of (join_from phases both qs)) in
        let n = length-append s.body.events q.body.events in
        omega (arith, so_long, from_least both qs, w.fits, w.put.behind, w.put.kept)

    join_ready : {now1 : List ℕ} {end : ℕ} → Put now place (event_bytes q) (event_size * many q) now1 end → Amends now1 r.stand new.head
    join_ready {now1} y =
        let inside : Inside r.stand phase_size now1 = omega (arith, so_long, join_room, o.stands, w.put.behind, y.kept) in
        record {
          old = r.head;
          inside = inside;
          stands = rw o.says (front_stands (phase_of (head_at s)) now1 r.stand (stood o.done (head_bytes s) (event_bytes s) so_far y join_room o.stands) inside);
          start = refl;
          phase = refl;
          code = refl;
          label = refl;
          evidence = refl;
          derived = refl;
          from = refl;
        }

    join_write : {now1 now2 : List ℕ} {end : ℕ} → Put now place (event_bytes q) (event_size * many q) now1 end
        → now2 ≡ wrote now1 r.stand (encode (phase (phase_of new.head))) → Writing room at target now2 (Some new) end qs
    join_write {now1} y z =
        let h = head_length (head_at both) ∙ sym (head_length (head_at s)) in
        record {
          fits = w.fits;
          written = o.done ++ (head_bytes both ++ (event_bytes s ++ event_bytes q));
          size = w.size + event_size * many q;
          put =
              amended o.done (head_bytes s) (event_bytes s) so_far y join_room o.stands (head_bytes both) h
              (z ∙ ap (λ (x : Phase). wrote now1 r.stand (encode (phase (phase_of x)))) both_says);
          made =
              record {
                last = both;
                done = o.done;
                says = both_says;
                stands = o.stands;
                parts = ap (λ (x : List ℕ). o.done ++ (head_bytes both ++ x)) (sym (both_events s q));
                rest = both_rest;
                few = omega (arith, o.few, length-append s.body.events q.body.events);
              };
        }

    join_goes : Goes room at target now place q qs (Some r)
    join_goes =
        record {
          begin = omega (arith, join_room, w.put.kept);
          space = join_room;
          count = let n = ap (λ (x : Phase). x.events) o.says in omega (arith, o.few);
          ready = join_ready;
          next = join_write;
        }

  pub goes : (b : Bool) (last : Option Written) → many q ≤ most_in_span → Writing room at target now last place (q ∷ qs) → joins_next (shows last) q ≡ b
      → Goes room at target now place q qs (cond b last None)
  goes false last l w e = own_goes l last w e
  goes true None l w e = absurd (let y : ◌≡◌ {A = ℕ} 0 1 = cc in omega arith)
  goes true (Some r) l w e = join_goes l w e

-- ---- nothing is left

module _ {room : List ℕ} {at : ℕ} {target now : List ℕ} {place : ℕ} where
  all_put : {last : Option Written} (w : Writing room at target now last place []) → target ≡ w.written → Put room at target (length target) now place
  all_put w e = rw (e, w.put.many) w.put

  pub write_end : (last : Option Written) → Writing room at target now last place [] → Put room at target (length target) now place
  unfolding joined join_from phase_forms encode_all
  write_end None w = all_put w (w.made.rest ∙ sym w.made.nothing)
  write_end (Some r) w =
      let o = w.made in
      let s = o.last in
      all_put w (o.rest ∙ ap (λ (x : List ℕ). o.done ++ x) (bytes_cons s [] ∙ ap (λ (x : List ℕ). head_bytes s ++ x) (append-nil (event_bytes s))) ∙ sym o.parts)
