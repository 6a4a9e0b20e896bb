-- `fill` leaves in the lent table the settled code of every value; or refuses with 1, then 2, the table as it was.
use Rattle.laws.proofs.Build.{Built}
use Rattle.waveforms.specs.Waveforms.{settled}
use Rattle.tables.proofs.fill.Given as goal

abbrev pub invariant-loop-value : goal.invariant-loop-value
invariant-loop-value l = Built (settled l.selection) 4096 l.table l.value
