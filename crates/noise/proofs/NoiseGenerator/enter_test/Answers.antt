-- `NoiseGenerator::enter_test` drops a shift under way, and sets the first leak 65,536 clocks ahead.
use Rattle.std.proofs.Common.{refl}
use Rattle.noise.specs.Noise.{entered_test}
use Rattle.noise.proofs.NoiseGenerator.enter_test.Goals as goal

pub returns : goal.returns
unfolding entered_test
returns c = refl
