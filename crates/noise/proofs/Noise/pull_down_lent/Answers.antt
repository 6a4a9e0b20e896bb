-- `Noise::pull_down_lent` pulls down numbers and lent held charges, and the captured ones only if `affects_capture`.
use Rattle.std.proofs.Common.{sym, ◌∙◌}
use Rattle.noise.specs.Noise.{pulled_down}
use Rattle.noise.proofs.Noise.pull_down_lent.Goals as goal
use Rattle.noise.proofs.Noise.pull_down_lent.Goals.{then-affects_capture, else-affects_capture}

pub returns : goal.returns
unfolding pulled_down
returns c = elim c.if-affects_capture.branch [
  | then-affects_capture w ↦ simp (sym c.affects_capture.ensures ∙ w.if-affects_capture.true, c.pull.ensures, c.discharge.ensures, w.captured_charge-is, w.discharge-then-affects_capture.ensures)
  | else-affects_capture w ↦ simp (sym c.affects_capture.ensures ∙ w.if-affects_capture.false, c.pull.ensures, c.discharge.ensures, w.captured_charge-is)
]
