-- `check_score` gives the clocks of an accepted score, or the first refusal and its place, as document 01's table says.
use Prim.Native.Nat.{◌-◌}
use lib.ListN.{length}
use Rattle.score.proofs.Walk.{Kept}
use Rattle.score.proofs.check_score.Given as goal

abbrev pub invariant-loop-at : goal.invariant-loop-at
invariant-loop-at l = Kept l.s l.at l.order

abbrev pub decreases-loop-at : goal.decreases-loop-at
decreases-loop-at l = length l.s - l.at
