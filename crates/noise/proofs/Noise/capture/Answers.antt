-- `Noise::capture` is the numbers after a rise: the stages are captured, and the shift lands two clocks later.
use Rattle.std.proofs.Common.{refl}
use Rattle.noise.specs.Noise.{capture_numbers}
use Rattle.noise.proofs.Noise.capture.Goals as goal

pub returns : goal.returns
unfolding capture_numbers
returns c = refl
