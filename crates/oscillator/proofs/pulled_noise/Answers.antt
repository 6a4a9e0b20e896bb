-- `pulled_noise` pulls the register down by the code where the voice does so on this cycle, and else leaves it.
use Rattle.std.proofs.Common.{sym, ◌∙◌}
use Rattle.oscillator.specs.Oscillator.{pulled_noise}
use Rattle.oscillator.proofs.pulled_noise.Goals as goal

pub returns-then-pulls_down : goal.returns-then-pulls_down
unfolding pulled_noise
returns-then-pulls_down c = simp (sym c.pulls_down.ensures ∙ c.if-pulls_down.true, c.pull_down.ensures)

pub returns-else-pulls_down : goal.returns-else-pulls_down
unfolding pulled_noise
returns-else-pulls_down c = simp (sym c.pulls_down.ensures ∙ c.if-pulls_down.false)
