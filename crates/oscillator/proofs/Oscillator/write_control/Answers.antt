-- `Oscillator::write_control` writes the four fields; then lines, phase and noise follow from what changed.
use Rattle.oscillator.specs.Oscillator.{written}
use Rattle.oscillator.proofs.Oscillator.write_control.Goals as goal

pub returns : goal.returns
unfolding written
returns c = simp (c.tested_noise-self.ensures, c.tested-self.ensures, c.written_bus-self.ensures, c.written-control.ensures)
