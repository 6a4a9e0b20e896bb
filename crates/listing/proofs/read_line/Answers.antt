-- `read_line` puts the line `R stamp address read` at the buffer's start and gives its length.
use native.Mathlib.Omega.{arith}
use Rattle.listing.specs.Text.{read_line}
use Rattle.listing.proofs.Joins.{puts_then}
use Rattle.listing.proofs.read_line.Goals as goal

pub returns : goal.returns
unfolding read_line
returns c =
    let put = puts_then c.opening.ensures (puts_then c.spaced.ensures (puts_then c.spaced-2.ensures c.byte.ensures)) in
    (put.put, omega (arith, put.within))
