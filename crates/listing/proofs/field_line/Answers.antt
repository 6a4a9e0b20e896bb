-- `field_line` puts a field's line at the buffer's start and gives its length.
use native.Mathlib.Omega.{arith}
use Rattle.listing.specs.FieldText.{field_line, field_text}
use Rattle.listing.proofs.Joins.{puts_then}
use Rattle.listing.proofs.field_line.Goals as goal

pub returns : goal.returns
unfolding field_line field_text
returns c =
    let put = puts_then (puts_then c.bytes.ensures (puts_then c.spaced_number.ensures c.operands.ensures)) c.byte.ensures in
    (rw (← c.word.ensures.word) put.put, omega (arith, put.within))
