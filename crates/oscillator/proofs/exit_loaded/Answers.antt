-- `exit_loaded` pulls noise that stays selected down by the last code, as its other drivers say, and else leaves it.
use Rattle.std.proofs.Common.{eq-eqb, ne_eqb}
use Rattle.oscillator.specs.Oscillator.{exit_loaded}
use Rattle.oscillator.proofs.exit_loaded.Goals as goal
use Rattle.oscillator.proofs.exit_loaded.Goals.{else-continuous_drivers-ne0-2-via-then-continuous_drivers-ne0-2+else-old_wave-ne0, else-continuous_drivers-ne0-2-via-else-continuous_drivers-ne0-2}

pub returns-then-continuous_drivers-eq0 : goal.returns-then-continuous_drivers-eq0
unfolding exit_loaded
returns-then-continuous_drivers-eq0 c = simp (eq-eqb _ _ c.if-continuous_drivers-eq0.true)

pub returns-then-continuous_drivers-ne0 : goal.returns-then-continuous_drivers-ne0
unfolding exit_loaded
returns-then-continuous_drivers-ne0 c = simp (ne_eqb _ _ c.if-continuous_drivers-eq0.false, ne_eqb _ _ c.if-continuous_drivers-ne0.true, c.pull_down.ensures)

pub returns-then-old_wave-ne0 : goal.returns-then-old_wave-ne0
unfolding exit_loaded
returns-then-old_wave-ne0 c =
    simp (ne_eqb _ _ c.if-continuous_drivers-eq0.false, eq-eqb _ _ c.if-continuous_drivers-ne0.false, ne_eqb _ _ c.if-continuous_drivers-ne0-2.true, ne_eqb _ _ c.if-old_wave-ne0.true, c.pull_down-then-old_wave-ne0.ensures)

pub returns-else-continuous_drivers-ne0-2 : goal.returns-else-continuous_drivers-ne0-2
unfolding exit_loaded
returns-else-continuous_drivers-ne0-2 c =
    elim c.else-continuous_drivers-ne0-2.branch [
      | else-continuous_drivers-ne0-2-via-then-continuous_drivers-ne0-2+else-old_wave-ne0 w ↦ simp (ne_eqb _ _ c.if-continuous_drivers-eq0.false, eq-eqb _ _ c.if-continuous_drivers-ne0.false, ne_eqb _ _ w.if-continuous_drivers-ne0-2.true, eq-eqb _ _ w.if-old_wave-ne0.false)
      | else-continuous_drivers-ne0-2-via-else-continuous_drivers-ne0-2 w ↦ simp (ne_eqb _ _ c.if-continuous_drivers-eq0.false, eq-eqb _ _ c.if-continuous_drivers-ne0.false, eq-eqb _ _ w.if-continuous_drivers-ne0-2.false)
    ]
