-- `fade_line` puts the line `F clock bits` at the buffer's start and gives its length.
use native.Mathlib.Omega.{arith}
use Rattle.listing.specs.Text.{fade_line}
use Rattle.listing.proofs.Joins.{puts_then}
use Rattle.listing.proofs.fade_line.Goals as goal

pub returns : goal.returns
unfolding fade_line
returns c =
    let put = puts_then c.opening.ensures (puts_then c.spaced.ensures c.byte.ensures) in
    (put.put, omega (arith, put.within))
