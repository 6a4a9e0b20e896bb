-- `render_over` runs as many clocks as there is room for, and stores what is heard of each.
use Rattle.std.proofs.Common.{◌∙◌}
use Rattle.pack.specs.Pack.{over}
use Rattle.run.proofs.Stored.{stored_rendered}
use Rattle.run.proofs.render_over.Goals as goal

pub returns : goal.returns
returns c =
    let args = c.args in
    let made = c.run_into.ensures in
    (made.0, made.1 ∙ stored_rendered (over args.pack.now) args.chip args.out.now)
