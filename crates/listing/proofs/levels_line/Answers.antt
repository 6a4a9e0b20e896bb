-- `levels_line` puts `L stamp` with code and level of voices 0 to 2 at the buffer's start, and gives the line's length.
use native.Mathlib.Omega.{arith}
use Rattle.listing.specs.Text.{levels_line}
use Rattle.listing.proofs.Joins.{puts_then}
use Rattle.listing.proofs.levels_line.Goals as goal

pub returns : goal.returns
unfolding levels_line
returns c =
    let put = puts_then c.opening.ensures (puts_then c.voice.ensures (puts_then c.voice-2.ensures (puts_then c.voice-3.ensures c.byte.ensures))) in
    (put.put, omega (arith, put.within))
