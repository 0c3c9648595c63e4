use Rattle.std.proofs.Common.{refl, ap, ◌∙◌}
use Rattle.std.specs.Prelude.{Option, Some}
use Rattle.answer.specs.Forms.{encode_all}
use Rattle.answer.proofs.Several.{one_form}
use Rattle.day.specs.Days.{Held}
use Rattle.day.specs.Venues.{values_in}
use Rattle.lend.proofs.Replies.{lent_same}
use Rattle.point.specs.Private.{told_held}
use Rattle.point.proofs.reply.tell_venue.Goals as goal

pub returns-in-None : goal.returns-in-None
returns-in-None c =
    let v = c.args.venue.now in
    lent_same c.tell_missing.ensures refl
    (one_form _ ∙ ap (λ (o : Option Held). encode_all (told_held (values_in v) (Some v.coverage) c.args.t.0 o)) c.in-None.ensures.0)
