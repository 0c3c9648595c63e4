use Rattle.std.proofs.Common.{ap, not, ◌∙◌}
use Rattle.walk_records.proofs.Records.{Fronted, begun, stays}
use Rattle.walk_records.proofs.put.put_record.Goals as goal
use Rattle.walk_records.proofs.put.put_record.Goals.{then-is_none, else-is_none}

-- the record's front stands there, begun here or by the span before
pub amend_phase-requires : goal.amend_phase-requires
amend_phase-requires c =
    elim c.if-is_none.branch [
      | then-is_none w ↦ rw w.out-is (begun c.args.joined c.args.new (c.is_none.ensures ∙ ap not w.if-is_none.true) c.requires w.begin_phase.ensures).ready
      | else-is_none w ↦ (stays c.args.joined c.args.new (c.is_none.ensures ∙ ap not w.if-is_none.false) c.requires w.out-is).ready
    ]

pub returns : goal.returns
returns c =
    let fronted : Fronted c.args.out.now c.if-is_none.out c.args.new =
    elim c.if-is_none.branch [
      | then-is_none w ↦ rw w.out-is (begun c.args.joined c.args.new (c.is_none.ensures ∙ ap not w.if-is_none.true) c.requires w.begin_phase.ensures)
      | else-is_none w ↦ stays c.args.joined c.args.new (c.is_none.ensures ∙ ap not w.if-is_none.false) c.requires w.out-is
    ] in
    (fronted.whole c.amend_phase.ensures).same
