-- `NoiseGenerator::leave_test` reads the stages off the charges; a shift with stage 0 high lands on the next clock.
use Rattle.noise.specs.Noise.{left_test}
use Rattle.noise.proofs.NoiseGenerator.leave_test.Goals as goal

pub returns : goal.returns
unfolding left_test
returns c = simp (c.project.ensures, c.sampled-state.ensures)
