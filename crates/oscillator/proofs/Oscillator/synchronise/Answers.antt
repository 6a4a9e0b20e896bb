-- `Oscillator::synchronise` clears phase and rising mark, and nothing else of the voice.
use Rattle.oscillator.specs.Oscillator.{synchronised}
use Rattle.oscillator.proofs.Oscillator.synchronise.Goals as goal

pub returns : goal.returns
unfolding synchronised
returns c = simp c.reset_phase-self.ensures
