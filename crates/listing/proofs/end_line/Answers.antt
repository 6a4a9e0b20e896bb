-- `end_line` puts the line `E clocks` at the buffer's start and gives its length.
use native.Mathlib.Omega.{arith}
use Rattle.listing.specs.Text.{end_line}
use Rattle.listing.proofs.Joins.{puts_then}
use Rattle.listing.proofs.end_line.Goals as goal

pub returns : goal.returns
unfolding end_line
returns c =
    let put = puts_then c.opening.ensures c.byte.ensures in
    (put.put, omega (arith, put.within))
