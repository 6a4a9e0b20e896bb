-- `forecast_counts` comes to an end.
use Rattle.forecast_cases.proofs.forecast_counts.Given as goal

abbrev pub invariant-loop-count : goal.invariant-loop-count
invariant-loop-count l = Unit

abbrev pub decreases-loop-count : goal.decreases-loop-count
decreases-loop-count l = l.count
