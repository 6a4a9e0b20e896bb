-- `Noise::step_once_lent` is a chip's clock of numbers and lent charges: they relax in test, by one step where one is
-- due or more, else shift if due and capture a rise.
use Rattle.noise.specs.Noise.{clocked, stepped_by}
use Rattle.noise.specs.declared.NoiseGenerator.{NoiseGenerator}
use Rattle.std.proofs.Common.{ap, ◌∙◌}
use Rattle.noise.proofs.Noise.step_once_lent.Goals as goal

pub returns-then-test : goal.returns-then-test
unfolding stepped_by
returns-then-test c = rw c.if-test.true c.relax_once_lent.ensures

pub returns : goal.returns
unfolding stepped_by
returns c = rw c.if-test.false (c.clock_lent.ensures ∙ ap (λ (g : NoiseGenerator). clocked g c.args.rising_bits c.args.cycle) c.execute_transfer_lent-shifted.ensures)
