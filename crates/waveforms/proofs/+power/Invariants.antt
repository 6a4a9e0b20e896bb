-- `power` calls itself with half its exponent.
use Rattle.waveforms.proofs.+power.Given as goal

abbrev pub decreases-power : goal.decreases-power
decreases-power l = l.exponent
