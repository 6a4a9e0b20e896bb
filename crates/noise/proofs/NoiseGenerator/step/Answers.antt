-- `NoiseGenerator::step` is a clock of the register: in test it relaxes, else the shift lands and then a rise
-- captures.
use Rattle.noise.specs.Noise.{stepped_by}
use Rattle.noise.proofs.NoiseGenerator.step.Goals as goal

pub returns-then-test : goal.returns-then-test
unfolding stepped_by
returns-then-test c = simp c.if-test.true c.relax.ensures

pub returns-else-test : goal.returns-else-test
unfolding stepped_by
returns-else-test c = simp (c.if-test.false, c.clock.ensures, c.execute_transfer.ensures)
