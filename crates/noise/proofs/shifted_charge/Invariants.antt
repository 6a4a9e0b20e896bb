-- `shifted_charge` moves every charge one stage down, and puts the incoming one into stage 22.
-- By `moved`: the loop copies within one array, each entry from one place up; `shut` stores the last.
use Rattle.std.proofs.Common.{◌≡◌, ◌-◌, ◌≤◌, ◌++◌, take, drop}
use Rattle.noise.proofs.shifted_charge.Given as goal

abbrev pub invariant-loop-stage : goal.invariant-loop-stage
invariant-loop-stage l = (l.stage ≤ 22) × (l.next_charge ≡ take l.stage (drop 1 l.captured_charge) ++ drop l.stage l.captured_charge)

abbrev pub decreases-loop-stage : goal.decreases-loop-stage
decreases-loop-stage l = 22 - l.stage
