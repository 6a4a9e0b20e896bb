-- `tick` is one clock of the chip by the rules: one over an empty pack.
use Rattle.std.proofs.Common.{ap, ◌∙◌}
use Rattle.pack.proofs.Engines.{over_empty}
use Rattle.tick.specs.Outputs.{outputs}
use Rattle.tick.proofs.tick.Goals as goal

pub returns : goal.returns
returns c = c.tick_over.ensures ∙ ap (outputs _) (over_empty c.args.chip)
