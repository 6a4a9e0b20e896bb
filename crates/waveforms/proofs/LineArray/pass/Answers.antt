-- `pass` drains every line once, each by the charges before the pass.
use Rattle.std.proofs.Common.{rules, ◌∙◌, get_or}
use Rattle.std.specs.Float.{nan}
use Rattle.waveforms.specs.Waveforms.{drained}
use Rattle.waveforms.proofs.Arrays.{from_fn_builds}
use Rattle.waveforms.proofs.Sums.{pass_drained}
use Rattle.waveforms.proofs.LineArray.pass.Goals as goal

pub returns : goal.returns
returns c =
    let a = c.args in
    let s = c.discharges-discharge in
    from_fn_builds _ (λ d. drained a.interaction a.loading (get_or a.previous d nan) (get_or s.result d nan)) 12 _ nan _ c.from_fn.ensures.items (λ k x q h e. search rules)
    ∙ pass_drained a.self.now.coupling a.self.now.static_load a.previous a.interaction a.loading s.result s.ensures
