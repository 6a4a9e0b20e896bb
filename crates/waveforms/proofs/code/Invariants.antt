-- `code` sets the bit of each of the twelve lines that is at the threshold or above.
use mathlib.Core.Path.{◌≡◌}
use Rattle.waveforms.specs.Waveforms.{code}
use Rattle.waveforms.proofs.code.Given as goal

abbrev pub invariant-loop-bit : goal.invariant-loop-bit
invariant-loop-bit l = l.output ≡ code l.threshold l.charge l.bit
