-- `Control::triangle_phase` flips bit 11 of the phase where the voice rings, and else leaves it.
use Rattle.std.proofs.Common.{sym, ◌∙◌}
use Rattle.oscillator.specs.Oscillator.{triangle_phase}
use Rattle.oscillator.proofs.Control.triangle_phase.Goals as goal

pub returns-then-rings : goal.returns-then-rings
unfolding triangle_phase
returns-then-rings c = simp (sym c.rings.ensures ∙ c.if-rings.true)

pub returns : goal.returns
unfolding triangle_phase
returns c = simp (sym c.rings.ensures ∙ c.if-rings.false)
