-- `discharges` is every line's load and its twelve sources, added in the Rust's order.
-- By `discharge_more`: one source more for all lines at once is one source more for each.
use mathlib.Core.Path.{◌∙◌}
use Rattle.waveforms.proofs.Sums.{discharge_none, discharge_more}
use Rattle.waveforms.proofs.LineArray.discharges.Goals as goal

pub loop-source-init : goal.loop-source-init
loop-source-init c = let a = c.args in discharge_none a.self.now.coupling a.self.now.static_load a.previous.now

pub loop-source-preserved : goal.loop-source-preserved
loop-source-preserved c =
    let a = c.args in
    let l = c.loop-source in
    c.add_source-next.ensures ∙ discharge_more a.self.now.coupling a.self.now.static_load a.previous.now l.source l.sum l.invariant
