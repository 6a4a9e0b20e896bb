-- `power` multiplies in the current square wherever the exponent, halved from call to call, is odd.
-- By `power_odd` and `power_even`: any number of halvings that is the exponent or more gives the same.
use mathlib.Core.Path.{sym, ◌∙◌}
use Rattle.waveforms.proofs.Powers.{power_none, power_odd, power_even}
use Rattle.waveforms.proofs.+power.Goals as goal
use Rattle.waveforms.proofs.+power.Goals.{then-exponent-eq1, else-exponent-eq1}

pub returns-then-exponent-eq0 : goal.returns-then-exponent-eq0
returns-then-exponent-eq0 t c = rw c.if-exponent-eq0.true (sym (power_none _ _))

pub returns : goal.returns
returns t c = elim c.if-exponent-eq1.branch [
  | then-exponent-eq1 w ↦ c.power.ensures ∙ rw w.acc-is (sym (power_odd _ _ _ c.if-exponent-eq0.false w.if-exponent-eq1.true))
  | else-exponent-eq1 w ↦ c.power.ensures ∙ rw w.acc-is (sym (power_even _ _ _ c.if-exponent-eq0.false w.if-exponent-eq1.false))
]
