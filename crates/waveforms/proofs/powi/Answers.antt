-- `powi` is the power by halved exponents, from 1.0 on.
use mathlib.Core.Path.{ap, ◌∙◌}
use lib.Ieee.{Float}
use Rattle.waveforms.specs.Waveforms.{power, powi}
use Rattle.waveforms.proofs.Literals.{is_one}
use Rattle.waveforms.proofs.powi.Goals as goal

pub returns : goal.returns
unfolding powi
returns c = c.power.ensures ∙ ap (λ (x : Float). power c.args.exponent x c.args.base c.args.exponent) is_one
