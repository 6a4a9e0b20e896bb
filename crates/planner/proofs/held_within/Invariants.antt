-- `held_within` counts the clocks to the first held one, or n; those to a match and those of a settled release it need
-- not make.
use Prim.Native.Nat.{◌+◌, ◌-◌, ◌≤◌}
use mathlib.Core.Path.{◌≡◌}
use Rattle.planner.specs.Planner.{held_within}
use Rattle.planner.proofs.held_within.Given as goal

abbrev pub invariant-loop-i : goal.invariant-loop-i
invariant-loop-i l = (l.i ≤ l.n) × (held_within l.n l.initial.e ≡ l.i + held_within (l.n - l.i) l.e)

abbrev pub decreases-loop-i : goal.decreases-loop-i
decreases-loop-i l = l.n - l.i
