-- The word, its fields and the end of the line, each behind the one before it.
use Rattle.std.proofs.Common.{[], ◌∷◌}
use Rattle.listing.specs.Text.{decimal, instant, fields}
use Rattle.listing.specs.Private.{TextFits}
use Rattle.listing.proofs.Writing.{front, rest, both}
use Rattle.listing.proofs.lines.put_event.Goals as goal

pub put_instant-b-requires : goal.put_instant-b-requires
put_instant-b-requires c =
    let word : TextFits c.put_byte-a.result (fields (instant c.args.when.0 ∷ decimal c.args.code ∷ [])) c.put_byte-a.new.out = rest c.requires c.put_byte-a.ensures in
    front _ word

pub put_number-c-requires : goal.put_number-c-requires
put_number-c-requires c =
    let word : TextFits c.put_byte-a.result (fields (instant c.args.when.0 ∷ decimal c.args.code ∷ [])) c.put_byte-a.new.out = rest c.requires c.put_byte-a.ensures in
    let instant_put : TextFits c.put_instant-b.result (fields (decimal c.args.code ∷ [])) c.put_instant-b.new.out = rest word c.put_instant-b.ensures in
    front _ instant_put

pub put_byte-requires : goal.put_byte-requires
put_byte-requires c =
    let word : TextFits c.put_byte-a.result (fields (instant c.args.when.0 ∷ decimal c.args.code ∷ [])) c.put_byte-a.new.out = rest c.requires c.put_byte-a.ensures in
    let instant_put : TextFits c.put_instant-b.result (fields (decimal c.args.code ∷ [])) c.put_instant-b.new.out = rest word c.put_instant-b.ensures in
    let code : TextFits c.put_number-c.result (fields ([])) c.put_number-c.new.out = rest instant_put c.put_number-c.ensures in
    code

pub returns : goal.returns
returns c =
    let word : TextFits c.put_byte-a.result (fields (instant c.args.when.0 ∷ decimal c.args.code ∷ [])) c.put_byte-a.new.out = rest c.requires c.put_byte-a.ensures in
    let instant_put : TextFits c.put_instant-b.result (fields (decimal c.args.code ∷ [])) c.put_instant-b.new.out = rest word c.put_instant-b.ensures in
    let code : TextFits c.put_number-c.result (fields ([])) c.put_number-c.new.out = rest instant_put c.put_number-c.ensures in
    both c.requires c.put_byte-a.ensures (both word c.put_instant-b.ensures (both instant_put c.put_number-c.ensures c.put_byte.ensures))
