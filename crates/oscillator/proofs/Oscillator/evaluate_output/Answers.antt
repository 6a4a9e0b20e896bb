-- `Oscillator::evaluate_output` gives the code by the comparison made before, and leaves the one made now.
use Rattle.oscillator.specs.Oscillator.{evaluated_by}
use Rattle.oscillator.proofs.Oscillator.evaluate_output.Goals as goal

pub returns : goal.returns
unfolding evaluated_by
returns c = simp (c.code-code.ensures, c.compared-self.ensures, c.sampled_bus-self.ensures)
