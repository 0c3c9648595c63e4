-- A phase written in two parts: what a span keeps that joins it, and what it alters. Assumes nothing.
use Rattle.std.specs.Prelude.{◌≡◌, List, ℕ, take}
use Rattle.wire.specs.Fields.{Inside, wrote}
use Rattle.answer.specs.Forms as Forms
use Rattle.answer.specs.Forms.{phase, encode, phase_size, to_place}
use Rattle.answer.specs.Meaning.{phase_of}
use Rattle.answer.specs.declared.Phase.{Phase}

-- its bytes up to the second boundary
abbrev pub front : Forms.Phase → List ℕ
front p = take to_place.from (encode (phase p))

-- there is room for p at `at`, and the front of a phase stands there that says what p says, but for its end
pub record Amends (s : List ℕ) (at : ℕ) (p : Phase) : Type 0 where
  pub old : Phase
  pub inside : Inside at phase_size s
  pub stands : s ≡ wrote s at (front (phase_of old))
  pub start : old.start ≡ p.start
  pub phase : old.phase ≡ p.phase
  pub code : old.code ≡ p.code
  pub label : old.label ≡ p.label
  pub evidence : old.evidence ≡ p.evidence
  pub derived : old.derived ≡ p.derived
  pub from : old.from ≡ p.from
