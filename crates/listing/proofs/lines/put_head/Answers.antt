-- The word, its numbers and the end of the line, each behind the one before it.
use Rattle.std.proofs.Common.{[], ◌∷◌}
use Rattle.listing.specs.Text.{decimal, fields}
use Rattle.listing.specs.Private.{TextFits}
use Rattle.listing.specs.Listing.{head_line}
use Rattle.listing.proofs.Writing.{front, rest, both}
use Rattle.listing.proofs.lines.put_head.Goals as goal

pub put_word-a-requires : goal.put_word-a-requires
unfolding head_line
put_word-a-requires c = front _ c.requires

pub put_number-b-requires : goal.put_number-b-requires
unfolding head_line
put_number-b-requires c =
    let word : TextFits c.put_word-a.result (fields (decimal c.args.number ∷ decimal c.args.count ∷ [])) c.put_word-a.new.out = rest c.requires c.put_word-a.ensures in
    front _ word

pub put_number-c-requires : goal.put_number-c-requires
unfolding head_line
put_number-c-requires c =
    let word : TextFits c.put_word-a.result (fields (decimal c.args.number ∷ decimal c.args.count ∷ [])) c.put_word-a.new.out = rest c.requires c.put_word-a.ensures in
    let first : TextFits c.put_number-b.result (fields (decimal c.args.count ∷ [])) c.put_number-b.new.out = rest word c.put_number-b.ensures in
    front _ first

pub put_byte-requires : goal.put_byte-requires
unfolding head_line
put_byte-requires c =
    let word : TextFits c.put_word-a.result (fields (decimal c.args.number ∷ decimal c.args.count ∷ [])) c.put_word-a.new.out = rest c.requires c.put_word-a.ensures in
    let first : TextFits c.put_number-b.result (fields (decimal c.args.count ∷ [])) c.put_number-b.new.out = rest word c.put_number-b.ensures in
    let second : TextFits c.put_number-c.result (fields ([])) c.put_number-c.new.out = rest first c.put_number-c.ensures in
    second

pub returns : goal.returns
unfolding head_line
returns c =
    let word : TextFits c.put_word-a.result (fields (decimal c.args.number ∷ decimal c.args.count ∷ [])) c.put_word-a.new.out = rest c.requires c.put_word-a.ensures in
    let first : TextFits c.put_number-b.result (fields (decimal c.args.count ∷ [])) c.put_number-b.new.out = rest word c.put_number-b.ensures in
    let second : TextFits c.put_number-c.result (fields ([])) c.put_number-c.new.out = rest first c.put_number-c.ensures in
    both c.requires c.put_word-a.ensures (both word c.put_number-b.ensures (both first c.put_number-c.ensures c.put_byte.ensures))
