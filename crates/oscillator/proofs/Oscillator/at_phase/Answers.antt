-- `Oscillator::at_phase` is a voice freshly made, but for its phase.
use Rattle.oscillator.specs.Oscillator.{fresh}
use Rattle.oscillator.proofs.Oscillator.at_phase.Goals as goal

pub returns : goal.returns
unfolding fresh
returns c = simp (c.new.ensures, c.new-2.ensures)
