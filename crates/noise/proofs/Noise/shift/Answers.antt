-- `Noise::shift` is the numbers after a shift: the shifted stages, shown, and no shift to come.
use Rattle.noise.specs.Noise.{shifted_numbers}
use Rattle.noise.proofs.Noise.shift.Goals as goal

pub returns : goal.returns
unfolding shifted_numbers
returns c = simp (c.project.ensures, c.shifted_state-state.ensures)
