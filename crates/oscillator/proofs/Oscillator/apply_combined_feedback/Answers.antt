-- `Oscillator::apply_combined_feedback` feeds the code back into the phase, and touches neither noise nor lines.
use Rattle.oscillator.specs.Oscillator.{fed_back}
use Rattle.oscillator.proofs.Oscillator.apply_combined_feedback.Goals as goal

pub returns : goal.returns
unfolding fed_back
returns c = simp c.fed_back-self.ensures
