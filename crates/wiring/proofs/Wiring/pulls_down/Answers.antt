-- `Wiring::pulls_down` is true exactly for driven noise, with pulse alone only in the shift's aperture.
use borrow.Author.Tests.{eq-eqb, ne_eqb}
use Rattle.wiring.specs.Wiring.{pulls_down_of}
use Rattle.wiring.proofs.Wiring.pulls_down.Goals as goal

pub returns-then-self-eq12 : goal.returns-then-self-eq12
unfolding pulls_down_of
returns-then-self-eq12 c = simp (c.if-self.true, eq-eqb _ _ c.if-self-eq12.true, c.pulse_load_aperture.ensures)

pub returns-then-self : goal.returns-then-self
unfolding pulls_down_of
returns-then-self c = simp (c.if-self.true, ne_eqb _ _ c.if-self-eq12.false)

pub returns : goal.returns
unfolding pulls_down_of
returns c = simp c.if-self.false
