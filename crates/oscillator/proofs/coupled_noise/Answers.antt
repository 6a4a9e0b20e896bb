-- `coupled_noise` drains the register's charges by the code where the voice couples, and else leaves it.
use Rattle.std.proofs.Common.{sym, ◌∙◌}
use Rattle.oscillator.specs.Oscillator.{coupled_noise}
use Rattle.oscillator.proofs.coupled_noise.Goals as goal

pub returns-then-couples : goal.returns-then-couples
unfolding coupled_noise
returns-then-couples c = simp (sym c.couples.ensures ∙ c.if-couples.true, c.load_pulse_coupling.ensures)

pub returns-else-couples : goal.returns-else-couples
unfolding coupled_noise
returns-else-couples c = simp (sym c.couples.ensures ∙ c.if-couples.false)
