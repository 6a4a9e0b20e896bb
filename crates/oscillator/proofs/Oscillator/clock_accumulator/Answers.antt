-- `Oscillator::clock_accumulator` clocks the phase, and the noise register with the bits that rise.
use Rattle.oscillator.specs.Oscillator.{clocked_by}
use Rattle.oscillator.proofs.Oscillator.clock_accumulator.Goals as goal

pub returns : goal.returns
unfolding clocked_by
returns c = simp (c.step-self.ensures, c.rising-rising.ensures, c.clocked-self.ensures)
