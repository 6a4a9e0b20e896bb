-- `Noise::clock_lent` captures on a rise, the lent charges copied where they stand, as `clock` does by value.
use Rattle.noise.specs.Noise.{clocked}
use Rattle.std.proofs.Common.{sym, ◌∙◌}
use Rattle.noise.proofs.Noise.clock_lent.Goals as goal

pub returns-then-captures : goal.returns-then-captures
unfolding clocked
returns-then-captures c = simp (sym c.captures-2.ensures ∙ c.if-captures.true, c.capture.ensures)

pub returns : goal.returns
unfolding clocked
returns c = simp (sym c.captures-2.ensures ∙ c.if-captures.false)
