-- `tested_noise` leaves test with its load, or enters it, or leaves the register as it is.
use Rattle.oscillator.specs.Oscillator.{tested_noise}
use Rattle.oscillator.proofs.tested_noise.Goals as goal

pub returns-in-true-false : goal.returns-in-true-false
unfolding tested_noise
returns-in-true-false c = simp (c.in-true-false.is-0, c.in-true-false.is-1, c.leave_test.ensures, c.exit_loaded.ensures)

pub returns-in-false-true : goal.returns-in-false-true
unfolding tested_noise
returns-in-false-true c = simp (c.in-false-true.is-0, c.in-false-true.is-1, c.enter_test.ensures)

pub returns-in_default : goal.returns-in_default
unfolding tested_noise
returns-in_default c = simp (c.in_default.is-0, c.in_default.is-1)

pub returns-in_default-2 : goal.returns-in_default-2
unfolding tested_noise
returns-in_default-2 c = simp (c.in_default.is-0, c.in_default.is-1)
