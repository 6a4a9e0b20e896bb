-- `add_source` adds one source's pull to the discharge of every line.
use Rattle.std.proofs.Common.{rules, ◌+◌, ◌*◌, get_or}
use Rattle.std.specs.Float.{nan}
use Rattle.waveforms.specs.Waveforms.{pulled}
use Rattle.waveforms.proofs.Literals.{is_one}
use Rattle.waveforms.proofs.Arrays.{from_fn_builds}
use Rattle.waveforms.proofs.LineArray.add_source.Goals as goal

pub returns : goal.returns
returns c =
    let a = c.args in
    from_fn_builds _ (λ d. pulled (get_or a.discharge d nan) a.previous (get_or a.self.now.coupling (a.source * 12 + d) nan)) 12 _ nan _ c.from_fn.ensures.items (λ k x q h e. search (rules, is_one))
