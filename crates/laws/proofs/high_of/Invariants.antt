-- `high_of` is the bits, of the first 32, whose charge is at least the threshold.
use Rattle.std.proofs.Common.{◌≡◌, min}
use Rattle.laws.specs.Charges.{high_to}
use Rattle.laws.proofs.high_of.Given as goal

abbrev pub invariant-loop-bit : goal.invariant-loop-bit
invariant-loop-bit g l = l.code ≡ high_to l.threshold l.charge (min l.bit 32)
