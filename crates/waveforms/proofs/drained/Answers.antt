-- `drained` leaves a line at or below 0.0, and takes the scaled discharge off any other, within 0.0 to 1.0.
use Rattle.waveforms.specs.Waveforms.{clamp, drained}
use Rattle.waveforms.proofs.Literals.{is_zero, is_one}
use Rattle.waveforms.proofs.drained.Goals as goal

pub returns-else-previous : goal.returns-else-previous
unfolding drained clamp
returns-else-previous c = simp (rw is_zero at c.if-previous.false) (cc (is_zero, is_one))
