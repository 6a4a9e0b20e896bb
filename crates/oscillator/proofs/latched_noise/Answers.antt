-- `latched_noise` is the register after a latch: the coupling, and then the pull-down.
use Rattle.oscillator.specs.Oscillator.{latched_noise}
use Rattle.oscillator.proofs.latched_noise.Goals as goal

pub returns : goal.returns
unfolding latched_noise
returns c = simp (c.pulled_noise.ensures, c.coupled_noise.ensures)
