-- Which answers fit their fields. Assumes nothing.
use Rattle.std.specs.Prelude.{ℕ, ◌<◌, ◌^◌, ◌≡◌, List, [], ◌∷◌, length}
use Rattle.std.specs.Prelude.{Option, None, Some}
use Rattle.std.specs.Int.{w64}
use Rattle.std.proofs.Common.{SFits}
use Rattle.zone.specs.Answers.{Values}
use Rattle.answer.specs.Forms.{Side, Cover, Phase, Event, Gap, Missing, Totals, Form, phase, unknown, event, point, mark, day, tally, many_totals}

-- a day row and a tally have ten totals
abbrev pub Sized : Form → Type 0
Sized (phase p) = Unit {0}
Sized (unknown g) = Unit {0}
Sized (event e) = Unit {0}
Sized (point m) = Unit {0}
Sized (mark r) = Unit {0}
Sized (day t) = length t.totals ≡ many_totals
Sized (tally t) = length t.totals ≡ many_totals

-- ---- each number fits its field

pub record FitsValues (u : Values) : Type 0 where
  pub tag : u.tag < 2 ^ 8
  pub one : SFits w64 u.one
  pub two : SFits w64 u.two
  pub text : u.text < 2 ^ 16

pub record FitsSide (s : Side) : Type 0 where
  pub at : SFits w64 s.at
  pub uncertainty : FitsValues s.uncertainty

abbrev pub FitsCover : Option Cover → Type 0
FitsCover None = Unit {0}
FitsCover (Some c) = SFits w64 c.start × SFits w64 c.end

abbrev pub FitsEach : List ℕ → Type 0
FitsEach [] = Unit {0}
FitsEach (x ∷ xs) = (x < 2 ^ 64) × FitsEach xs

pub record FitsPhase (p : Phase) : Type 0 where
  pub start : SFits w64 p.start
  pub end : SFits w64 p.end
  pub phase : p.phase < 2 ^ 8
  pub code : p.code < 2 ^ 8
  pub label : p.label < 2 ^ 16
  pub evidence : p.evidence < 2 ^ 16
  pub derived : p.derived < 2 ^ 16
  pub from : FitsSide p.from
  pub to : FitsSide p.to
  pub whole : FitsValues p.whole
  pub events : p.events < 2 ^ 32

pub record FitsGap (g : Gap) : Type 0 where
  pub start : SFits w64 g.start
  pub end : SFits w64 g.end
  pub coverage : FitsCover g.coverage

pub record FitsEvent (e : Event) : Type 0 where
  pub code : e.code < 2 ^ 16
  pub at : SFits w64 e.at
  pub uncertainty : FitsValues e.uncertainty
  pub evidence : e.evidence < 2 ^ 16

pub record FitsMissing (m : Missing) : Type 0 where
  pub at : SFits w64 m.at
  pub coverage : FitsCover m.coverage

pub record FitsTotals (t : Totals) : Type 0 where
  pub start : SFits w64 t.start
  pub end : SFits w64 t.end
  pub ten : length t.totals ≡ many_totals
  pub totals : FitsEach t.totals

abbrev pub Fitting : Form → Type 0
Fitting (phase p) = FitsPhase p
Fitting (unknown g) = FitsGap g
Fitting (event e) = FitsEvent e
Fitting (point m) = FitsMissing m
Fitting (mark r) = r < 2 ^ 16
Fitting (day t) = FitsTotals t
Fitting (tally t) = FitsTotals t
