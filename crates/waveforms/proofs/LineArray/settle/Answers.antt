-- `LineArray::settle` is the code that three passes leave of the value's twelve charges, to the bit.
use lib.Ieee.{of_bits}
use mathlib.Core.Path.{◌≡◌}
use native.Mathlib.Numerals.{add-one}
use native.Mathlib.Omega.{arith}
use Rattle.laws.specs.Times.{times}
use Rattle.waveforms.specs.Constants.{dec, retention_thresholds, loading_scales}
use Rattle.waveforms.specs.Waveforms.{settled_by}
use Rattle.waveforms.proofs.LineArray.settle.Goals as goal

pub loop-init : goal.loop-init
unfolding times
loop-init c = c.charges-charge.ensures

pub loop-preserved : goal.loop-preserved
unfolding times
loop-preserved c = rw add-one (simp (c.pass-next.ensures, c.loop.invariant))

pub returns : goal.returns
unfolding settled_by loading_scales retention_thresholds dec of_bits
returns c =
    let three : c.loop.counter ≡ 3 = omega arith in
    simp (c.code.ensures, c.loop.invariant, three, c.interaction_scale-interaction.ensures)
