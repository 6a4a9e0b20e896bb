-- `NoiseGenerator::load_pulse_coupling` drains the held charges of low lines, and leaves what is captured.
use Rattle.noise.specs.Noise.{coupled}
use Rattle.noise.proofs.NoiseGenerator.load_pulse_coupling.Goals as goal

pub returns : goal.returns
unfolding coupled
returns c = simp c.couple.ensures
