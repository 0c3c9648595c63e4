-- A row's class, segment by segment. Assumes nothing.
use mathlib.Core.Path.{◌≡◌, refl, sym, ap, ◌∙◌}
use mathlib.Core.Bool.{Bool, true, false, cond}
use mathlib.Core.List.{List, [], ◌∷◌}
use Rattle.std.specs.Prelude.{Some}
use Prim.Native.Nat.{ℕ, ◌+◌, ◌-◌, ◌*◌, ◌≤◌, ◌<◌}
use native.Mathlib.Omega.{arith}
use lib.ListN.{length}
use Rattle.records.specs.Book.{trading}
use Rattle.spans.specs.Spans.{Mark, phase, unknown, Span, look, holds}
use Rattle.rows.specs.Rows as Rows
use Rattle.rows.specs.Rows.{segments_at, shown_at}
use Rattle.rows.specs.Telling.{mark_of, segment_of, span_of, end_of, good_on, mark_at, rows_at}
use Rattle.rows.specs.declared.RowSegment.{RowSegment}
use Rattle.rows.proofs.Turns.{mark_holds}
use Rattle.rows.proofs.Places.{holds as segment-holds, segments_end, mark_end, rows_end, segments_mark, mark_mark, rows_mark}
use Rattle.rows.proofs.Steps.{Ends, Anew, Sees, Happens, Going, segment_going, event_going}
use Rattle.answer.specs.Forms.{event_size, mark_size}
use Rattle.classes.specs.Classes.{class_of, class_at}
use Rattle.classes.specs.Reading.{marks, class_in, first_of, Only, Another}
use Rattle.classes.specs.declared.Class.{Class}
use Rattle.classes.specs.declared.Class.TheVariants.{Trading, NotTrading, NotKnown, NotShown}

-- ---- one after the other

pub first_first : (x y z : Class) → first_of (first_of x y) z ≡ first_of x (first_of y z)
first_first Trading y z = refl
first_first NotTrading y z = refl
first_first NotKnown y z = refl
first_first NotShown y z = refl

first_none : (x : Class) → first_of x NotShown ≡ x
first_none Trading = refl
first_none NotTrading = refl
first_none NotKnown = refl
first_none NotShown = refl

-- what is shown is no other than shown
first_some : (m : Mark) (y : Class) → class_of (Some m) ≡ first_of (class_of (Some m)) y
first_some m y = go m
  where
    by : (b : Bool) → cond b Trading NotTrading ≡ first_of (cond b Trading NotTrading) y
    by true = refl
    by false = refl

    go : (m : Mark) → class_of (Some m) ≡ first_of (class_of (Some m)) y
    go (phase p e) = by (trading p)
    go unknown = refl

-- the class by a segment and those behind it
class_on : (s : List ℕ) (g : RowSegment) (ss : List (Span Rows.Seen)) (t : ℕ) → class_at (span_of s g ∷ ss) t ≡ first_of (class_in g t) (class_at ss t)
unfolding look
class_on s g ss t = go (holds (marks g) t)
  where
    go : (b : Bool) → class_of (cond b (Some (mark_of g.shows)) (shown_at ss t)) ≡ first_of (cond b (class_of (Some (mark_of g.shows))) NotShown) (class_at ss t)
    go true = first_some (mark_of g.shows) (class_at ss t)
    go false = refl

-- ---- along a row: what is found so far, and the class of what is left, are the row's

pub record Along (allowed : Bool) (s : List ℕ) (start t at least n : ℕ) (shown : Class) : Type 0 where
  pub going : Going allowed s (good_on allowed s start 0 0) at least n
  pub same : first_of shown (class_at (segments_at s (at + event_size * n)) t) ≡ class_at (segments_at s start) t
  pub next : mark_at s start ≡ mark_at s (at + event_size * n)
  pub after : start ≤ at

module _ (allowed : Bool) (s : List ℕ) (start t : ℕ) where
  pub along_start : start ≤ length s → Along allowed s start t start 0 0 NotShown
  along_start h =
      let z : start + event_size * 0 ≡ start = omega arith in
      record { going = record { same = refl; inside = h }; same = rw z; next = rw z; after = omega arith }

  module _ {at least n : ℕ} {shown : Class} (a : Along allowed s start t at least n shown) where
    -- the row ends here
    found : n ≡ 0 → segments_at s at ≡ [] → shown ≡ class_at (segments_at s start) t
    unfolding look
    found z e =
        let y : at + event_size * n ≡ at = omega arith in
        sym (first_none shown) ∙ ap (λ (ss : List (Span Rows.Seen)). first_of shown (class_at ss t)) (sym e)
        ∙ ap (λ (b : ℕ). first_of shown (class_at (segments_at s b) t)) (sym y) ∙ a.same

    next_at : n ≡ 0 → mark_at s at ≡ at → mark_at s start ≡ at
    next_at z e = let y : at + event_size * n ≡ at = omega arith in a.next ∙ ap (mark_at s) y ∙ e

    pub along_end : Ends allowed s at least n → Only allowed s start t shown
    along_end e =
        record {
          good = a.going.same ∙ e.good;
          shown = found e.none (segments_end s at e.end);
          rows = ap (rows_at s) (next_at e.none (mark_end s at e.end)) ∙ rows_end s at e.end;
        }

    pub along_mark : Anew allowed s at least n → Another allowed s start t shown (at + mark_size)
    along_mark m =
        let h = mark_holds s at m.mark in
        let i : at < length s = omega (arith, h.0) in
        record {
          allowed = m.allowed;
          good = a.going.same ∙ m.on;
          shown = found m.none (segments_mark s at i h.1);
          number = _;
          rows = ap (rows_at s) (next_at m.none (mark_mark s at i h.1)) ∙ rows_mark s at i;
          after = omega (arith, a.after);
          inside = m.inside;
        }

    pub along_segment : Sees allowed s at least n → {g : RowSegment} → g ≡ segment_of s at → {x y : Class} → x ≡ class_in g t → y ≡ first_of shown x
        → Along allowed s start t g.behind g.to.0 g.events y
    along_segment o {g} e {x} {y} i j =
        let h = segment-holds s at o.segment in
        let rest = class_at (segments_at s (end_of g)) t in
        let z : at + event_size * n ≡ at = let k = o.none in omega arith in
        let spans : segments_at s at ≡ span_of s g ∷ segments_at s (end_of g) = rw e h.segments in
        record {
          going = segment_going a.going o e;
          same = ap (λ (c : Class). first_of c rest) (j ∙ ap (first_of shown) i) ∙ first_first shown (class_in g t) rest
              ∙ ap (first_of shown) (sym (class_on s g (segments_at s (end_of g)) t) ∙ sym (ap (λ (ss : List (Span Rows.Seen)). class_at ss t) (ap (segments_at s) z ∙ spans)))
              ∙ a.same;
          next = a.next ∙ ap (mark_at s) z ∙ rw e h.next;
          after = rw e (omega (arith, a.after, h.after));
        }

    pub along_event : Happens allowed s at least n → {behind : ℕ} → behind ≡ at + event_size → Along allowed s start t behind least (n - 1) shown
    along_event o e =
        rw e (record {
          going = event_going a.going o;
          same = rw o.same at a.same;
          next = rw o.same at a.next;
          after = omega (arith, a.after);
        })
