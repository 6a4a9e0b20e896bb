-- `NoiseGenerator::relax` makes the leak steps that are due, one after the other, and no other.
use Rattle.std.proofs.Common.{sym, ◌∙◌}
use Rattle.noise.specs.Noise.{relaxed}
use Rattle.noise.proofs.Once.{has_come}
use Rattle.noise.proofs.NoiseGenerator.relax.Goals as goal

pub returns-then-not-has_come : goal.returns-then-not-has_come
unfolding relaxed
returns-then-not-has_come c = simp (sym c.has_come.ensures ∙ c.if-not-has_come.true)

pub overflow_sub-cycle : goal.overflow_sub-cycle
overflow_sub-cycle c = has_come _ _ (sym c.has_come.ensures ∙ c.if-not-has_come.false)

pub returns : goal.returns
unfolding relaxed
returns c = simp (sym c.has_come.ensures ∙ c.if-not-has_come.false, c.relax_times.ensures)
