-- `read_in` gives a read with the line's two numbers, which are a stamp and a byte.
use native.Mathlib.Omega.{arith}
use mathlib.Core.Path.{sym, ◌∙◌}
use Rattle.script.proofs.Lines.{after_byte}
use Rattle.script.proofs.read_in.Goals as goal

pub overflow_cast-result : goal.overflow_cast-result
overflow_cast-result c = omega (arith, after_byte _ _ (sym c.number_after-2.ensures ∙ c.in_ok-address.was))
