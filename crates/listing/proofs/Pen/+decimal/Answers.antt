-- `Pen::decimal` puts the decimal digits of a number, with no leading zero: by `decimal_more` the digits before the
-- last are those of n / 10.
use native.Mathlib.Omega.{arith}
use Prim.Native.Nat.{◌/◌}
use mathlib.Core.Path.{ap}
use lib.ListN.{length, length-append}
use Rattle.listing.specs.Text.{decimal, last_digit}
use Rattle.listing.proofs.Joins.{puts_then, puts_wider, decimal_one, decimal_more, decimal_longer}
use Rattle.listing.proofs.Pen.+decimal.Goals.{then-n-ge10, else-n-ge10}
use Rattle.listing.proofs.Pen.+decimal.Goals as goal

pub decimal-requires : goal.decimal-requires
decimal-requires t c = (omega arith, omega (arith, decimal_longer c.args.n (omega arith)))

pub byte-requires : goal.byte-requires
byte-requires t c =
    elim c.if-n-ge10.branch [
      | then-n-ge10 w ↦ rw w.self-is (omega (arith, w.decimal.ensures.within, w.decimal.ensures.kept, decimal_longer c.args.n w.if-n-ge10.true))
      | else-n-ge10 w ↦ rw w.self-is (omega (arith, ap length (decimal_one c.args.n w.if-n-ge10.false)))
    ]

pub returns : goal.returns
returns t c =
    let n = c.args.n in
    elim c.if-n-ge10.branch [
      | then-n-ge10 w ↦ rw (decimal_more n w.if-n-ge10.true) (puts_wider (puts_then w.decimal.ensures (rw w.self-is at c.byte.ensures)) (omega (arith, length-append (decimal (n / 10)) (last_digit n))))
      | else-n-ge10 w ↦ rw (decimal_one n w.if-n-ge10.false) (rw w.self-is at c.byte.ensures)
    ]
