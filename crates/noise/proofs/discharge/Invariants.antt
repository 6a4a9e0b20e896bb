-- `discharge` empties the lent charge of each low line's stage, and no other.
use Rattle.std.proofs.Common.{◌≡◌, ◌-◌, ◌≤◌}
use Rattle.noise.specs.Noise.{discharged_to}
use Rattle.noise.proofs.discharge.Given as goal

abbrev pub invariant-loop-line : goal.invariant-loop-line
invariant-loop-line l = (l.line ≤ 8) × (l.charge ≡ discharged_to l.waveform l.initial.charge l.line)

abbrev pub decreases-loop-line : goal.decreases-loop-line
decreases-loop-line l = 8 - l.line
