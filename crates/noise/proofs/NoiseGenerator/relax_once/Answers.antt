-- `NoiseGenerator::relax_once` makes one leak step where one is due or more, and none else.
use Rattle.std.proofs.Common.{sym, ◌∙◌}
use Rattle.noise.specs.Noise.{relaxed_once}
use Rattle.noise.proofs.NoiseGenerator.relax_once.Goals as goal

pub returns-then-has_come : goal.returns-then-has_come
unfolding relaxed_once
returns-then-has_come c = simp (sym c.has_come.ensures ∙ c.if-has_come.true, c.relax_times.ensures)

pub returns-else-has_come : goal.returns-else-has_come
unfolding relaxed_once
returns-else-has_come c = simp (sym c.has_come.ensures ∙ c.if-has_come.false)
