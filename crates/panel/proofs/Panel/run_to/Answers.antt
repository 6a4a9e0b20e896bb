-- `Panel::run_to` runs the clocks that the panel lacks of the stamp, and counts each; none where the stamp has gone
-- by.
use native.Mathlib.Omega.{arith}
use Prim.Native.Nat.{◌+◌, ◌-◌}
use mathlib.Core.Path.{◌≡◌, sym}
use Rattle.panel.specs.Panel.{ran_to_by}
use Rattle.panel.proofs.Leaps.{ran_none}
use Rattle.panel.proofs.Panel.run_to.Goals as goal

pub returns-then-self-stamp : goal.returns-then-self-stamp
unfolding ran_to_by
returns-then-self-stamp c =
    let a = c.args in
    let e : a.self.clock + (a.stamp - a.self.clock) ≡ a.stamp = omega arith in
    rw e (simp c.run_over-self.ensures)

pub returns-else-self-stamp : goal.returns-else-self-stamp
returns-else-self-stamp c =
    let a = c.args in
    sym (ran_none _ a.self a.stamp (omega arith))
