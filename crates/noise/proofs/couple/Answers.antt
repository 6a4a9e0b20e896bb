-- `couple` takes a fourteenth, and at least one, from the lent charge of each low line's stage, and from no other.
use Rattle.std.proofs.Common.{sym, refl, ◌∙◌, add-one, rules}
use Rattle.noise.specs.Noise.{coupled_to}
use Rattle.noise.proofs.couple.Goals as goal
use Rattle.noise.proofs.couple.Goals.{then-is_low, else-is_low}

pub loop-line-init : goal.loop-line-init
unfolding coupled_to
loop-line-init c = (search rules, refl)

pub loop-line-preserved : goal.loop-line-preserved
unfolding coupled_to
loop-line-preserved c = (
  search rules,
  rw add-one (elim c.if-is_low.branch [
    | then-is_low w ↦ simp (sym c.is_low.ensures ∙ w.if-is_low.true, w.charge-is, w.drained.ensures, c.loop-line.invariant.1)
    | else-is_low w ↦ simp (sym c.is_low.ensures ∙ w.if-is_low.false, w.charge-is, c.loop-line.invariant.1)
  ]),
)
