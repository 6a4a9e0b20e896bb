-- `retained` has what is kept of the bits so far, the highest first.
use Rattle.std.proofs.Common.{◌≡◌, ◌/◌, ◌^◌, drop}
use Rattle.bus.specs.Bus.{holds, kept}
use Rattle.bus.proofs.retained.Given as goal

abbrev pub invariant-loop-bit : goal.invariant-loop-bit
invariant-loop-bit l = l.out ≡ kept (drop l.bit holds) (l.value / 2 ^ l.bit) l.age
