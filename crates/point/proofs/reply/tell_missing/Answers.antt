use Rattle.std.proofs.Common.{refl, arith}
use Rattle.answer.specs.Forms.{Form, point, encode}
use Rattle.answer.specs.Meaning.{missing_of}
use Rattle.answer.proofs.Readback.{encode_length}
use Rattle.lend.proofs.Replies.{lent_short, lent_written}
use Rattle.point.proofs.reply.tell_missing.Goals as goal

pub returns-then-out-lt-MISSING_SIZE : goal.returns-then-out-lt-MISSING_SIZE
returns-then-out-lt-MISSING_SIZE c =
    let form : Form = point (missing_of c.args.t.0 c.args.c) in
    lent_short (encode form) _ refl (omega (arith, c.if-out-lt-MISSING_SIZE.true, encode_length form tt))

pub returns : goal.returns
returns c =
    let form : Form = point (missing_of c.args.t.0 c.args.c) in
    let put = c.put_missing.ensures in
    lent_written (encode form) _ refl (omega (arith, c.if-out-lt-MISSING_SIZE.false, put.many)) put.same (omega (arith, put.behind, put.many))
