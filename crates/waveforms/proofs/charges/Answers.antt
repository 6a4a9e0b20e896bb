-- `charges` is 1.0 for each line that the value has, and 0.0 for the others.
use Rattle.std.proofs.Common.{rules}
use Rattle.std.specs.Float.{nan}
use Rattle.waveforms.specs.Waveforms.{charge_at}
use Rattle.waveforms.proofs.Arrays.{from_fn_builds}
use Rattle.waveforms.proofs.charges.Goals as goal

pub returns : goal.returns
unfolding charge_at
returns c = from_fn_builds _ (charge_at c.args.value) 12 _ nan _ c.from_fn.ensures.items (λ k x q h e. search rules)
