-- A negative one has its sign, and any other only its digits.
use Rattle.std.proofs.Common.{ℕ, ◌-◌, ◌<◌, ◌≤◌, List, ◌∷◌, w64, arith}
use Rattle.wire.specs.Signs.{half}
use Rattle.listing.specs.Text.{minus, decimal, instant}
use Rattle.listing.specs.Private.{TextFits}
use Rattle.listing.proofs.Writing.{front, rest, both}
use Rattle.listing.proofs.Numbers.{instant_negative, instant_natural}
use Rattle.listing.proofs.text.put_signed.Goals as goal

negative : {at x : ℕ} {out : List ℕ} → x < half w64 → TextFits at (instant x) out → TextFits at (minus ∷ decimal (half w64 - x)) out
negative {x = x} below h = rw (instant_negative x below) at h

natural : {at x : ℕ} {out : List ℕ} → half w64 ≤ x → TextFits at (instant x) out → TextFits at (decimal (x - half w64)) out
natural {x = x} above h = rw (instant_natural x above) at h

pub put_byte-next-requires : goal.put_byte-next-requires
put_byte-next-requires c = front _ (negative c.if-x-lt-HALF8.true c.requires)

pub put_decimal-requires : goal.put_decimal-requires
put_decimal-requires c = rest (negative c.if-x-lt-HALF8.true c.requires) c.put_byte-next.ensures

pub returns-then-x-lt-HALF8 : goal.returns-then-x-lt-HALF8
returns-then-x-lt-HALF8 c =
    rw (instant_negative c.args.p.0 c.if-x-lt-HALF8.true)
    (both (negative c.if-x-lt-HALF8.true c.requires) c.put_byte-next.ensures c.put_decimal.ensures)

pub put_decimal-requires-2 : goal.put_decimal-requires-2
put_decimal-requires-2 c = natural (omega (arith, c.if-x-lt-HALF8.false)) c.requires

pub returns : goal.returns
returns c = rw (instant_natural c.args.p.0 (omega (arith, c.if-x-lt-HALF8.false))) c.put_decimal-2.ensures
