-- `charges_of` gives each bit of N a full charge where it is set in the code, else none.
use Rattle.laws.specs.Charges.{charge_for}
use Rattle.laws.proofs.Build.{Built}
use Rattle.laws.proofs.charges_of.Given as goal

abbrev pub invariant-loop-bit : goal.invariant-loop-bit
invariant-loop-bit g l = Built (charge_for l.code) g.row.N l.q-items l.bit
