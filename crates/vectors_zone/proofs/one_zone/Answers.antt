use Rattle.std.proofs.Common.{sym, ◌∙◌}
use Rattle.zone.proofs.Validity.{valid_yes}
use Rattle.vectors_zone.proofs.one_zone.Goals as goal

pub invariant_of-clock : goal.invariant_of-clock
invariant_of-clock c = record { valid = valid_yes _ _ _ (sym c.is_valid.ensures ∙ c.if-is_valid.true) }
