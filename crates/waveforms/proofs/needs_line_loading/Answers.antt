-- `needs_line_loading` is true exactly with two waveforms or more in the low four bits.
use mathlib.Core.Path.{ap}
use lib.Dec.{ltb}
use Rattle.waveforms.specs.Waveforms.{needs_loading}
use Rattle.waveforms.proofs.needs_line_loading.Goals as goal

pub returns : goal.returns
unfolding needs_loading
returns c = ap (ltb 1) c.drivers.ensures
