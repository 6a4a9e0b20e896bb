-- `interaction_scale` is 1.0 plus the gain times the square of the number of waveforms beyond two.
use Rattle.waveforms.specs.Waveforms.{source_excess, interaction_scale}
use Rattle.waveforms.proofs.Literals.{is_zero, is_one, is_two, is_interaction_gain}
use Rattle.waveforms.proofs.Sums.{excess}
use Rattle.waveforms.proofs.interaction_scale.Goals as goal

pub returns : goal.returns
unfolding interaction_scale source_excess
returns c =
    let e = excess c.max-source_excess.result c.args.selection (rw (c.drivers.ensures, is_two, is_zero) at c.max-source_excess.ensures.value) in
    cc (is_one, is_interaction_gain)
