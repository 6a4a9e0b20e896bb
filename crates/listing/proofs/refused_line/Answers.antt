-- `refused_line` puts `refused number at place`, with document 01's number, and gives the line's length.
use native.Mathlib.Omega.{arith}
use Rattle.listing.specs.Text.{refused_line}
use Rattle.listing.proofs.Joins.{puts_then}
use Rattle.listing.proofs.refused_line.Goals as goal

pub returns : goal.returns
unfolding refused_line
returns c =
    let put = puts_then c.bytes.ensures (puts_then c.number.ensures (puts_then c.bytes-2.ensures (puts_then c.number-2.ensures c.byte.ensures))) in
    (rw (← c.from.ensures) put.put, omega (arith, put.within))
