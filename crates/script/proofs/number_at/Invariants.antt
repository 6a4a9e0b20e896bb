-- `number_at` gives the number that stands at a place and the place after it, or none.
use Prim.Native.Nat.{◌-◌}
use mathlib.Core.Path.{◌≡◌}
use lib.ListN.{length, drop}
use Rattle.script.specs.Numbers.{more, number_at}
use Rattle.script.proofs.number_at.Given as goal

abbrev pub invariant-loop-value : goal.invariant-loop-value
invariant-loop-value l = more l.limit l.value l.next (drop l.next l.s) ≡ number_at l.limit l.s l.at

abbrev pub decreases-loop-value : goal.decreases-loop-value
decreases-loop-value l = length l.s - l.next
