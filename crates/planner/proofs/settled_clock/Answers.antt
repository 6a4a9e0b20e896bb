-- `settled_clock` is the clock of the last step of a settled release, in demand 3's sum, which fits.
use native.Mathlib.Omega.{arith}
use native.Mathlib.Nat.{mul-le-mul_right}
use mathlib.Core.Path.{sym}
use Prim.Native.Nat.{ℕ, ◌-◌, ◌*◌, ◌≤◌}
use Rattle.envelope.proofs.Periods.{period_range}
use Rattle.planner.proofs.Falls.{last_step_turn}
use Rattle.release.proofs.Steps.{divisor_le}
use Rattle.planner.proofs.Counts.{settled_when}
use Rattle.planner.proofs.settled_clock.Goals as goal

-- the clocks from the first match to the last
matches_fit : (m P : ℕ) → m ≤ 73215 → P ≤ 32767 → (m - 1) * P ≤ 2399003138
matches_fit m P l r = omega (arith, mul-le-mul_right {m = m - 1} {n = 73214} P (omega arith))

pub overflow_sub-wait-2 : goal.overflow_sub-wait-2
overflow_sub-wait-2 c = omega (arith, (settled_when c.args.e c.requires).settled.phase)

pub matches_left-requires : goal.matches_left-requires
matches_left-requires c =
    let s = settled_when c.args.e c.requires in
    (s.count, divisor_le _ s.divisor)

pub overflow_mul-result : goal.overflow_mul-result
overflow_mul-result c = omega (arith, c.matches_left.ensures, c.envelope_rate_period-period.ensures, period_range c.args.e.fall_rate, matches_fit)

pub overflow_add-result-2 : goal.overflow_add-result-2
overflow_add-result-2 c = omega (arith, c.matches_left.ensures, c.envelope_rate_period-period.ensures, period_range c.args.e.fall_rate, matches_fit)

pub overflow_add-result-3 : goal.overflow_add-result-3
overflow_add-result-3 c =
    omega (arith, c.last_lag.ensures, c.matches_left.ensures, c.envelope_rate_period-period.ensures, period_range c.args.e.fall_rate, matches_fit)

pub returns : goal.returns
returns c = rw (c.envelope_rate_period-period.ensures, c.matches_left.ensures.0, c.last_lag.ensures.0) (sym (last_step_turn c.args.e (omega arith) _))
