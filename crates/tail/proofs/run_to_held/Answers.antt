-- `run_to_held` is the run over an empty pack.
use mathlib.Core.List.{[]}
use mathlib.Core.Path.{◌∙◌}
use Rattle.oscillator.specs.Ways.{stepwise}
use Rattle.pack.specs.Pack.{over}
use Rattle.pack.proofs.Engines.{over_empty}
use Rattle.tail.proofs.Tails.{run_alike}
use Rattle.tail.proofs.run_to_held.Goals as goal

pub returns : goal.returns
returns c =
    let plain = run_alike (over []) stepwise over_empty c.args.chip c.args.voice c.args.n in
    (c.run_to_held_over.ensures.0 ∙ plain.0, c.run_to_held_over.ensures.1 ∙ plain.1)
