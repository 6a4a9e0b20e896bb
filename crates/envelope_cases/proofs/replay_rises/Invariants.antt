-- `replay_rises` comes to an end: each rise takes bytes off the list.
use Rattle.std.proofs.Common.{length}
use Rattle.envelope_cases.proofs.replay_rises.Given as goal

abbrev pub decreases-loop-head : goal.decreases-loop-head
decreases-loop-head l = length l.rest
