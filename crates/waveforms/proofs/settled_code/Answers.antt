-- `settled_code` settles the value for two waveforms or more, and else gives its low twelve bits.
use mathlib.Core.Path.{sym, ◌∙◌}
use Rattle.waveforms.specs.Waveforms.{settled, loaded}
use Rattle.waveforms.proofs.settled_code.Goals as goal

pub returns-then-needs_line_loading : goal.returns-then-needs_line_loading
unfolding loaded settled
returns-then-needs_line_loading c = simp (sym c.needs_line_loading.ensures ∙ c.if-needs_line_loading.true) (cc)

pub returns : goal.returns
unfolding loaded
returns c = simp (sym c.needs_line_loading.ensures ∙ c.if-needs_line_loading.false)
