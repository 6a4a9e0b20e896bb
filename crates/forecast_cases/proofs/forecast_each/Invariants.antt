-- `forecast_each` takes its divisors from within their list, and comes to an end.
use Prim.Native.Nat.{◌-◌, ◌≤◌}
use Rattle.forecast_cases.proofs.forecast_each.Given as goal

abbrev pub invariant-loop-place : goal.invariant-loop-place
invariant-loop-place l = l.place ≤ 6

abbrev pub decreases-loop-place : goal.decreases-loop-place
decreases-loop-place l = 6 - l.place
