-- A piece's whole span, as the code puts it together. Assumes nothing.
use mathlib.Core.Path.{◌≡◌, refl, sym, ap, ap₂, ◌∙◌}
use mathlib.Core.Bool.{Bool, true, false, cond}
use mathlib.Core.List.{List}
use Prim.Native.Nat.{ℕ, suc, ◌+◌, ◌≤◌, ◌<◌}
use borrow.Author.Tests.{lt-ltb, le-ltb, ltb-true}
use lib.Dec.{ltb}
use lib.ListN.{length}
use Rattle.zone.specs.Zone.{Zone, resolve}
use Rattle.zone.specs.Units.{nearest_reading, reading_at}
use Rattle.zone.specs.Answers.{uncertain, boundary_at}
use Rattle.zone.specs.declared.Boundary.{Boundary}
use Rattle.zone.specs.declared.Uncertainty.{Uncertainty}
use Rattle.venue.specs.Reading.{published}
use Rattle.spans.specs.Timeline.{Edge}
use Rattle.day.specs.Days.{Held}
use Rattle.walk.specs.Walking.{rule_of, point_of, start_edge, end_edge, held_in, ClearDate, clear_in}
use Rattle.walk.specs.declared.Piece.{Piece}

module _ (s : List ℕ) (z : Zone) (q : Piece) where
  abbrev many : ℕ
  many = length (rule_of s q).points

  abbrev says : Uncertainty
  says = published (rule_of s q).uncertainty

  -- a boundary's own uncertainty
  abbrev doubt : Edge → Uncertainty
  doubt e = uncertain (resolve z (nearest_reading (reading_at e.date e.time))) says

  module _ (b : Boundary) (x : ℕ) (u : Uncertainty) (p : u ≡ says) where
    pub by_point : x ≡ (point_of s q q.point).time → b ≡ boundary_at z q.date.0 x u → b.uncertainty ≡ doubt (start_edge s q)
    by_point e f =
        ap (λ (c : Boundary). c.uncertainty) (f ∙ ap₂ (λ (y : ℕ) (w : Uncertainty). boundary_at z q.date.0 y w) e p)

    pub by_next : q.point + 1 < many → x ≡ (point_of s q (q.point + 1)).time → b ≡ boundary_at z q.date.0 x u → b.uncertainty ≡ doubt (end_edge s q)
    by_next h e f =
        ap (λ (c : Boundary). c.uncertainty) (f ∙ ap₂ (λ (y : ℕ) (w : Uncertainty). boundary_at z q.date.0 y w) e p)
        ∙ sym (ap (λ (c : Bool). doubt (cond c (record { date = q.date.0; time = (point_of s q (q.point + 1)).time; at = q.end.0 }) (record { date = suc q.date.0; time = 0; at = q.end.0 })))
        (lt-ltb (q.point + 1) many h))

  pub by_midnight : (b : Boundary) (u : Uncertainty) → u ≡ says → many ≤ q.point + 1 → b ≡ boundary_at z (suc q.date.0) 0 u
      → b.uncertainty ≡ doubt (end_edge s q)
  by_midnight b u p h f =
      ap (λ (c : Boundary). c.uncertainty) (f ∙ ap (boundary_at z (suc q.date.0) 0) p)
      ∙ sym (ap (λ (c : Bool). doubt (cond c (record { date = q.date.0; time = (point_of s q (q.point + 1)).time; at = q.end.0 }) (record { date = suc q.date.0; time = 0; at = q.end.0 })))
      (le-ltb (q.point + 1) many h))

  ends_at : (end_edge s q).at ≡ q.end.0
  ends_at = go (ltb (q.point + 1) many)
    where
      at : Edge → ℕ
      at e = e.at

      go : (b : Bool) → at (cond b (record { date = q.date.0; time = (point_of s q (q.point + 1)).time; at = q.end.0 }) (record { date = suc q.date.0; time = 0; at = q.end.0 })) ≡ q.end.0
      go true = refl
      go false = refl

  pub whole_span : (own next : Uncertainty) (phase : ℕ) → own ≡ doubt (start_edge s q) → next ≡ doubt (end_edge s q) → phase ≡ (point_of s q q.point).phase
      → ◌≡◌ {A = Held} (record { start = record { at = q.start; uncertainty = own }; end = record { at = q.end; uncertainty = next }; phase = phase; rule = rule_of s q }) (held_in s z q)
  whole_span own next phase e f g =
      held_by (ap (λ (u : Uncertainty). record { at = q.start; uncertainty = u }) e)
      (ap₂ (λ (i : ℕ) (u : Uncertainty). record { at = record { 0 = i }; uncertainty = u }) (sym ends_at) f) g
    where
      held_by : {a a' b b' : Boundary} {p p' : ℕ} → a ≡ a' → b ≡ b' → p ≡ p'
          → ◌≡◌ {A = Held} (record { start = a; end = b; phase = p; rule = rule_of s q }) (record { start = a'; end = b'; phase = p'; rule = rule_of s q })
      held_by i j k = cc

  -- between boundaries that are not in doubt
  pub clear_span : q.point < many → ClearDate z (rule_of s q) q.date.0 → held_in s z q ≡ clear_in s q
  clear_span h c =
      sym (whole_span says says (point_of s q q.point).phase (sym (c.points q.point h says)) (sym (ends (ltb (q.point + 1) many) refl)) refl)
    where
      ends : (b : Bool) → ltb (q.point + 1) many ≡ b
          → doubt (cond b (record { date = q.date.0; time = (point_of s q (q.point + 1)).time; at = q.end.0 }) (record { date = suc q.date.0; time = 0; at = q.end.0 })) ≡ says
      ends true e = c.points (q.point + 1) (ltb-true (q.point + 1) many e) says
      ends false e = c.midnight says
