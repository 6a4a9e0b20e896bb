-- `Pen::hex` puts the hex digits of numbers below 16, in order.
use Rattle.std.proofs.lemmas.List.{map_more}
use Rattle.listing.specs.Text.{hex_digit}
use Rattle.listing.proofs.Joins.{puts_then}
use Rattle.listing.proofs.Pen.hex.Goals as goal

pub loop-d-preserved : goal.loop-d-preserved
loop-d-preserved c =
    rw (map_more hex_digit c.args.digits.now c.loop-d.d-index 0 c.loop-d-test.true, ← c.hex_digit.ensures)
    (puts_then c.loop-d.invariant c.byte.ensures)
