-- `run` is the chip after exactly n ticks: a run over an empty pack.
use Rattle.std.proofs.Common.{[], ◌∙◌}
use Rattle.oscillator.specs.Ways.{stepwise}
use Rattle.sid.proofs.Ticks.{ticks_alike}
use Rattle.pack.specs.Pack.{over}
use Rattle.pack.proofs.Engines.{over_empty}
use Rattle.run.proofs.run.Goals as goal

pub returns : goal.returns
returns c =
    let args = c.args in
    c.run_over.ensures ∙ ticks_alike (over []) stepwise over_empty args.n args.chip
