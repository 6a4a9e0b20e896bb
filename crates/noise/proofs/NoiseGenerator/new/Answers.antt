-- `NoiseGenerator::new` is the stages 0x3fffff, shown and captured, with their charges and no time to come.
use Rattle.noise.specs.Noise.{fresh}
use Rattle.noise.proofs.NoiseGenerator.new.Goals as goal

pub returns : goal.returns
unfolding fresh
returns c = simp (c.project.ensures, c.charges_of-charge.ensures)
