-- `next_expiry_for` has the least hold above the age among the bits so far, the highest first.
use Rattle.std.proofs.Common.{◌≡◌, ◌/◌, ◌^◌, drop}
use Rattle.bus.specs.Bus.{holds, next_expiry_for}
use Rattle.bus.proofs.next_expiry_for.Given as goal

abbrev pub invariant-loop-bit : goal.invariant-loop-bit
invariant-loop-bit l = l.next ≡ next_expiry_for (drop l.bit holds) (l.value / 2 ^ l.bit) l.age
