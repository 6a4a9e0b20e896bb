-- `discharge` empties the lent charge of each low line's stage, and no other.
use Rattle.std.proofs.Common.{sym, refl, ◌∙◌, add-one, rules}
use Rattle.noise.specs.Noise.{discharged_to}
use Rattle.noise.proofs.discharge.Goals as goal
use Rattle.noise.proofs.discharge.Goals.{then-is_low, else-is_low}

pub loop-line-init : goal.loop-line-init
unfolding discharged_to
loop-line-init c = (search rules, refl)

pub loop-line-preserved : goal.loop-line-preserved
unfolding discharged_to
loop-line-preserved c = (
  search rules,
  rw add-one (elim c.if-is_low.branch [
    | then-is_low w ↦ simp (sym c.is_low.ensures ∙ w.if-is_low.true, w.charge-is, c.loop-line.invariant.1)
    | else-is_low w ↦ simp (sym c.is_low.ensures ∙ w.if-is_low.false, w.charge-is, c.loop-line.invariant.1)
  ]),
)
