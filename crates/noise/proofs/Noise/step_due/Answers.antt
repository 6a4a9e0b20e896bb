-- `Noise::step_due` asks in test whether a leak is due, else whether the shift is or a rise captures.
use Rattle.std.proofs.Common.{sym, ◌∙◌}
use Rattle.noise.specs.Loop.{step_due}
use Rattle.noise.proofs.Noise.step_due.Goals as goal

pub returns-then-test : goal.returns-then-test
unfolding step_due
returns-then-test c = simp (c.if-test.true, c.has_come.ensures)

pub returns-then-transfers : goal.returns-then-transfers
unfolding step_due
returns-then-transfers c = c.if-transfers.true ∙ simp (c.if-test.false, sym c.transfers.ensures ∙ c.if-transfers.true)

pub returns-else-transfers : goal.returns-else-transfers
unfolding step_due
returns-else-transfers c = simp (c.if-test.false, sym c.transfers.ensures ∙ c.if-transfers.false, c.captures-2.ensures)
