-- `LineArray::spread` makes the 144 couplings of the 23 by offset, a row for each source, and adds the static load.
-- By `coupling_row`: a coupling turns only on how far the destination lies above the source.
use Prim.Native.Nat.{◌*◌}
use mathlib.Core.Path.{◌≡◌}
use lib.ListN.{length, take}
use Rattle.laws.specs.Build.{build}
use Rattle.waveforms.proofs.Couplings.{entry}
use Rattle.waveforms.proofs.LineArray.spread.Given as goal

abbrev pub invariant-loop-source : goal.invariant-loop-source
invariant-loop-source l = (length l.coupling ≡ 144) × (take (l.source * 12) l.coupling ≡ build (entry l.selection) (l.source * 12))
