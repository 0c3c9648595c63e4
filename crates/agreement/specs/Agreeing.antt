-- What agrees over a plain window of a venue: demand 3. Assumes nothing.
use Rattle.std.specs.Prelude.{◌≡◌, ◌↔◌, ℕ, ◌≤◌, ◌<◌}
use Rattle.std.specs.Prelude.{Option, None, Some}
use Rattle.records.specs.Records.{Rule}
use Rattle.spans.specs.Spans.{Mark, phase, unknown, Body}
use Rattle.spans.specs.Timeline.{Edge, Venue, Part, Starts}

-- what an accepted book has: each rule's first point is at 00:00, a body shows its point's phase and its rule's evidence, joined bodies show
-- what the first did, a gap shows that nothing is known, and coverage is not empty
pub record Accepted {A : Type 0} (B : Body A) (v : Venue A) (gap : A) (c : Part) : Type 0 where
  pub starts : (d : ℕ) (r : Rule) → v.governing d ≡ Some r → Starts r.points
  pub shows : (r : Rule) (s e : Edge) (p : ℕ) → B.mark (v.body r s p e) ≡ phase p r.evidence
  pub merges : (a b : A) → B.mark (B.merge a b) ≡ B.mark a
  pub lacks : B.mark gap ≡ unknown
  pub covers : c.start < c.end

abbrev pub Covered : Part → ℕ → Type 0
Covered c t = (c.start ≤ t) × (t < c.end)

-- what the timeline shows at t, against the point answer at t
pub record Agrees {A : Type 0} (v : Venue A) (c : Part) (t : ℕ) (shown point : Option Mark) : Type 0 where
  pub known : (p e : ℕ) → (shown ≡ Some (phase p e)) ↔ (point ≡ Some (phase p e))
  pub not_known : (point ≡ None) ↔ ((p e : ℕ) → shown ≡ Some (phase p e) → ⊥)
  pub outside : (shown ≡ Some unknown) ↔ (Covered c t → ⊥)
  pub nothing : (shown ≡ None) ↔ (Covered c t × (v.governing (v.reads t) ≡ None))
