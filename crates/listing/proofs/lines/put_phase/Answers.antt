-- The word, its fields and the end of the line, each behind the one before it.
use Rattle.std.proofs.Common.{[], ◌∷◌}
use Rattle.listing.specs.Text.{decimal, instant, fields}
use Rattle.listing.specs.Private.{TextFits}
use Rattle.listing.proofs.Writing.{front, rest, both}
use Rattle.listing.proofs.lines.put_phase.Goals as goal

pub put_instant-b-requires : goal.put_instant-b-requires
put_instant-b-requires c =
    let word : TextFits c.put_byte-a.result (fields (instant c.args.from.0 ∷ instant c.args.to.0 ∷ decimal c.args.p ∷ decimal c.args.evidence ∷ [])) c.put_byte-a.new.out = rest c.requires c.put_byte-a.ensures in
    front _ word

pub put_instant-c-requires : goal.put_instant-c-requires
put_instant-c-requires c =
    let word : TextFits c.put_byte-a.result (fields (instant c.args.from.0 ∷ instant c.args.to.0 ∷ decimal c.args.p ∷ decimal c.args.evidence ∷ [])) c.put_byte-a.new.out = rest c.requires c.put_byte-a.ensures in
    let start : TextFits c.put_instant-b.result (fields (instant c.args.to.0 ∷ decimal c.args.p ∷ decimal c.args.evidence ∷ [])) c.put_instant-b.new.out = rest word c.put_instant-b.ensures in
    front _ start

pub put_number-d-requires : goal.put_number-d-requires
put_number-d-requires c =
    let word : TextFits c.put_byte-a.result (fields (instant c.args.from.0 ∷ instant c.args.to.0 ∷ decimal c.args.p ∷ decimal c.args.evidence ∷ [])) c.put_byte-a.new.out = rest c.requires c.put_byte-a.ensures in
    let start : TextFits c.put_instant-b.result (fields (instant c.args.to.0 ∷ decimal c.args.p ∷ decimal c.args.evidence ∷ [])) c.put_instant-b.new.out = rest word c.put_instant-b.ensures in
    let end : TextFits c.put_instant-c.result (fields (decimal c.args.p ∷ decimal c.args.evidence ∷ [])) c.put_instant-c.new.out = rest start c.put_instant-c.ensures in
    front _ end

pub put_number-e-requires : goal.put_number-e-requires
put_number-e-requires c =
    let word : TextFits c.put_byte-a.result (fields (instant c.args.from.0 ∷ instant c.args.to.0 ∷ decimal c.args.p ∷ decimal c.args.evidence ∷ [])) c.put_byte-a.new.out = rest c.requires c.put_byte-a.ensures in
    let start : TextFits c.put_instant-b.result (fields (instant c.args.to.0 ∷ decimal c.args.p ∷ decimal c.args.evidence ∷ [])) c.put_instant-b.new.out = rest word c.put_instant-b.ensures in
    let end : TextFits c.put_instant-c.result (fields (decimal c.args.p ∷ decimal c.args.evidence ∷ [])) c.put_instant-c.new.out = rest start c.put_instant-c.ensures in
    let phase : TextFits c.put_number-d.result (fields (decimal c.args.evidence ∷ [])) c.put_number-d.new.out = rest end c.put_number-d.ensures in
    front _ phase

pub put_byte-requires : goal.put_byte-requires
put_byte-requires c =
    let word : TextFits c.put_byte-a.result (fields (instant c.args.from.0 ∷ instant c.args.to.0 ∷ decimal c.args.p ∷ decimal c.args.evidence ∷ [])) c.put_byte-a.new.out = rest c.requires c.put_byte-a.ensures in
    let start : TextFits c.put_instant-b.result (fields (instant c.args.to.0 ∷ decimal c.args.p ∷ decimal c.args.evidence ∷ [])) c.put_instant-b.new.out = rest word c.put_instant-b.ensures in
    let end : TextFits c.put_instant-c.result (fields (decimal c.args.p ∷ decimal c.args.evidence ∷ [])) c.put_instant-c.new.out = rest start c.put_instant-c.ensures in
    let phase : TextFits c.put_number-d.result (fields (decimal c.args.evidence ∷ [])) c.put_number-d.new.out = rest end c.put_number-d.ensures in
    let evidence : TextFits c.put_number-e.result (fields ([])) c.put_number-e.new.out = rest phase c.put_number-e.ensures in
    evidence

pub returns : goal.returns
returns c =
    let word : TextFits c.put_byte-a.result (fields (instant c.args.from.0 ∷ instant c.args.to.0 ∷ decimal c.args.p ∷ decimal c.args.evidence ∷ [])) c.put_byte-a.new.out = rest c.requires c.put_byte-a.ensures in
    let start : TextFits c.put_instant-b.result (fields (instant c.args.to.0 ∷ decimal c.args.p ∷ decimal c.args.evidence ∷ [])) c.put_instant-b.new.out = rest word c.put_instant-b.ensures in
    let end : TextFits c.put_instant-c.result (fields (decimal c.args.p ∷ decimal c.args.evidence ∷ [])) c.put_instant-c.new.out = rest start c.put_instant-c.ensures in
    let phase : TextFits c.put_number-d.result (fields (decimal c.args.evidence ∷ [])) c.put_number-d.new.out = rest end c.put_number-d.ensures in
    let evidence : TextFits c.put_number-e.result (fields ([])) c.put_number-e.new.out = rest phase c.put_number-e.ensures in
    both c.requires c.put_byte-a.ensures (both word c.put_instant-b.ensures (both start c.put_instant-c.ensures (both end c.put_number-d.ensures (both phase c.put_number-e.ensures c.put_byte.ensures))))
