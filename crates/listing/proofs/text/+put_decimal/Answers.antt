-- The proof of the cycle of calls {put_decimal}. Assumes nothing.
use Rattle.std.proofs.Common.{ℕ, ◌/◌, ◌%◌, ◌≤◌, List, [], ◌∷◌, ◌++◌, arith}
use Rattle.listing.specs.Text.{digit, decimal}
use Rattle.listing.specs.Private.{TextFits}
use Rattle.listing.proofs.Writing.{front, rest, both}
use Rattle.listing.proofs.Numbers.{decimal_one, decimal_more}
use Rattle.listing.proofs.text.+put_decimal.Goals as goal

-- a number of more than one digit: the digits before its last, and that one
fits : {n at : ℕ} {out : List ℕ} → 10 ≤ n → TextFits at (decimal n) out → TextFits at (decimal (n / 10) ++ (digit (n % 10) ∷ [])) out
fits {n} more h = rw (decimal_more n more) at h

pub put_digit-requires : goal.put_digit-requires
put_digit-requires t c = (c.if-n-lt10.true, rw (decimal_one c.args.n c.if-n-lt10.true) at c.requires)

pub returns-then-n-lt10 : goal.returns-then-n-lt10
returns-then-n-lt10 t c = rw (decimal_one c.args.n c.if-n-lt10.true) c.put_digit.ensures

pub put_decimal-next-requires : goal.put_decimal-next-requires
put_decimal-next-requires t c = (omega arith, front _ (fits c.if-n-lt10.false c.requires))

pub put_digit-requires-2 : goal.put_digit-requires-2
put_digit-requires-2 t c = (omega arith, rest (fits c.if-n-lt10.false c.requires) c.put_decimal-next.ensures)

pub returns : goal.returns
returns t c =
    rw (decimal_more c.args.n c.if-n-lt10.false)
    (both (fits c.if-n-lt10.false c.requires) c.put_decimal-next.ensures c.put_digit-2.ensures)
