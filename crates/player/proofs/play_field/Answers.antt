-- `play_field` runs the panel to the field's stamp, does what the field says, and puts the lines of the bits that fade
-- on the way, then the field's own.
use native.Mathlib.Omega.{arith}
use Rattle.listing.proofs.Joins.{then, put_copied}
use Rattle.player.specs.Steps.{on_field}
use Rattle.player.proofs.play_field.Goals as goal

pub returns : goal.returns
unfolding on_field
returns c =
    let line = c.do_field-done.ensures in
    let ran = c.run_to-ran.ensures in
    let put = then ran.put (put_copied line.put (omega (arith, line.fits)) _ _ (omega (arith, line.fits, ran.fits))) in
    rw c.copy_into.ensures.1
    (rw (← ran.panel) (record { player = line.player; put = put; fits = omega (arith, line.fits, ran.fits) }))
