-- `Noise::incoming` is a full charge for a feedback of 1, and none for 0.
use Rattle.std.proofs.Common.{sym, eq-eqb, ne_eqb}
use Rattle.noise.specs.Noise.{incoming}
use Rattle.noise.proofs.Noise.incoming.Goals as goal

pub returns-then-feedback-eq0 : goal.returns-then-feedback-eq0
unfolding incoming
returns-then-feedback-eq0 c = simp (sym c.feedback.ensures, eq-eqb _ _ c.if-feedback-eq0.true)

pub returns-else-feedback-eq0 : goal.returns-else-feedback-eq0
unfolding incoming
returns-else-feedback-eq0 c = simp (sym c.feedback.ensures, ne_eqb _ _ c.if-feedback-eq0.false)
