-- `Noise::affects_capture` is true exactly where the shift lands by the next clock.
use Rattle.noise.specs.Noise.{affects_capture}
use Rattle.noise.proofs.Noise.affects_capture.Goals as goal

pub returns : goal.returns
unfolding affects_capture
returns c = simp c.has_come.ensures
