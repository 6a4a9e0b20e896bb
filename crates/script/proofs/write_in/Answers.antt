-- `write_in` gives a write with the line's three numbers, which are a stamp and two bytes.
use native.Mathlib.Omega.{arith}
use mathlib.Core.Path.{sym, ◌∙◌}
use Rattle.script.proofs.Lines.{after_byte}
use Rattle.script.proofs.write_in.Goals as goal

pub overflow_cast-result : goal.overflow_cast-result
overflow_cast-result c = omega (arith, after_byte _ _ (sym c.number_after-2.ensures ∙ c.in_ok-address.was))

pub overflow_cast-result-2 : goal.overflow_cast-result-2
overflow_cast-result-2 c = omega (arith, after_byte _ _ (sym c.number_after-3.ensures ∙ c.in_ok-value.was))
